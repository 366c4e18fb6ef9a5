use Rattle.std.proofs.Common.{refl, length, sym, ap, ◌∙◌, arith, replicate, false}
use Rattle.std.proofs.lemmas.List.{length-replicate}
use Rattle.dr_meaning.specs.Meaning.Machine.{Setup, setup_of}
use Rattle.dr_seq.proofs.Stamped.{none_marked}
use Rattle.dr_core.proofs.Recents.{none_ahead}
use Rattle.dr_core.proofs.Opening.{limit_fits, none_recent, opening_seen, opening_shows, opening_whole}
use Rattle.dr_core.proofs.engine.Core.open_valid.Goals as goal

pub invariant_of-result : goal.invariant_of-result
invariant_of-result g c =
    let slots = sym c.published.invariant.0 ∙ ap length (c.published.view_is ∙ c.in_ok-published.ensures.0) ∙ length-replicate _ _ in
    let size = rw slots at c.published.invariant.1 in
    let setup : Setup = setup_of c.args.graph.upstreams c.args.size c.args.mode c.args.limit in
    let counts = c.in_ok-taken.ensures in let many = c.len.ensures.handlers in
    record {
      whole = opening_whole setup c.args.graph.names _ c.in_ok-taken.taken.items c.in_ok-taken.completed.items c.in_ok-taken.retired.items
          (counts.0 ∙ ap (λ n. replicate n 0) many) (counts.1 ∙ ap (λ n. replicate n 0) many) (counts.2 ∙ ap (λ n. replicate n false) many)
          (record { graph = c.len.ensures.lawful; size = size; limit = limit_fits c.args.limit c.requires.limit });
      available = record {
        published = ap length c.in_ok-published.ensures.0 ∙ length-replicate _ _;
        written = ap length c.in_ok-published.ensures.1 ∙ length-replicate _ _;
        owners = c.in_ok-owners.ensures;
        events = ap length c.in_ok-events.ensures ∙ length-replicate _ _;
        filled = omega arith;
        unpublished = λ s later. rw c.in_ok-published.ensures.0 (none_ahead c.args.mode _ s);
        unwritten = λ s later. rw c.in_ok-published.ensures.1 (none_marked _ s);
      };
      gating = rw c.deref.ensures.value at c.in_ok-gating.ensures;
      seen = λ f has. omega arith;
      claimable = omega arith;
    }

pub returns : goal.returns
returns g c =
    let setup : Setup = setup_of c.args.graph.upstreams c.args.size c.args.mode c.args.limit in
    let counts = c.in_ok-taken.ensures in let many = c.len.ensures.handlers in
    let taken = counts.0 ∙ ap (λ n. replicate n 0) many in let completed = counts.1 ∙ ap (λ n. replicate n 0) many in
    let retired = counts.2 ∙ ap (λ n. replicate n false) many in
    record {
      setup = refl;
      names = refl;
      seen =
          opening_seen
          setup c.args.graph.names _ c.in_ok-taken.taken.items c.in_ok-taken.completed.items c.in_ok-taken.retired.items taken completed retired
          (none_recent _ c.args.size);
      shows =
          opening_shows
          setup c.args.graph.names _ c.in_ok-taken.taken.items c.in_ok-taken.completed.items c.in_ok-taken.retired.items taken completed retired;
    }
