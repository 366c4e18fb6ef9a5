use Rattle.std.proofs.Common.{◌≡◌, ◌-◌, ◌++◌, OnOk, arith, codes, length, min, string_bytes, subst, ℕ, List}
use Rattle.dr_show.specs.Meaning.StateText.{most_drawn}
use Rattle.dr_show.specs.Inside.Seen.{events_text, stretches_text}
use Rattle.dr_show.specs.Inside.Sequences.{said_of, slots_of}
use Rattle.dr_show.proofs.Pieces.{five_put}
use Rattle.dr_show.proofs.rounds.put_round.Goals as goal

pub returns : goal.returns
returns c =
    let slots = slots_of c.args.recents.now in
    let said = said_of slots in
    let next = c.args.next in
    let old = string_bytes c.args.page.now in
    let from = c.saturating_sub-from.result in
    let drawn = c.saturating_sub-drawn.result in
    let is_from : from ≡ next - length slots = omega (arith, c.saturating_sub-from.ensures, c.size-size.ensures) in
    let is_drawn : drawn ≡ next - min (length slots) most_drawn = omega (arith, c.saturating_sub-drawn.ensures, c.min.ensures, c.size-size.ensures) in
    let text : ℕ → ℕ → List ℕ = λ a b. codes ",\"round\":[" ++ stretches_text said a next ++ codes "],\"events\":\"" ++ events_text said b next ++ codes "\"" in
    subst (λ (a : ℕ). OnOk c.push_str-3.result (string_bytes c.push_str-3.new.self ≡ old ++ text a (next - min (length slots) most_drawn))) is_from
    (subst (λ (b : ℕ). OnOk c.push_str-3.result (string_bytes c.push_str-3.new.self ≡ old ++ text from b)) is_drawn
    (five_put c.push_str-3.result old (codes ",\"round\":[") (stretches_text said from next) (codes "],\"events\":\"") (events_text said drawn next) (codes "\"")
    (string_bytes c.push_str.new.self) (string_bytes c.put_stretches.new.page) (string_bytes c.push_str-2.new.self) (string_bytes c.put_events.new.page)
    (string_bytes c.push_str-3.new.self) c.in_ok-push_str.ensures.bytes c.in_ok-put_stretches.ensures c.in_ok-push_str-2.ensures.bytes c.in_ok-put_events.ensures
    c.push_str-3.ensures.bytes))
