use Rattle.std.proofs.Common.{◌∙◌, ◌++◌, List, ap, codes, decimal, flat_map, length, string_bytes, ℕ}
use Rattle.std.specs.List.{range_with_len}
use Rattle.dr_seq.specs.declared.event.Event.{Event}
use Rattle.dr_meaning.specs.Meaning.Machine.{is_single, producers}
use Rattle.dr_core.specs.Calls.CoreView.{CoreView}
use Rattle.dr_drive.specs.Calls.Shows.{core_of}
use Rattle.dr_records.specs.Records.{Field}
use Rattle.dr_show.specs.Meaning.Texts.{bool_text}
use Rattle.dr_show.specs.Meaning.StateText.{named_object}
use Rattle.dr_show.proofs.Pieces.{exchange_put}
use Rattle.dr_show.proofs.exchanges.put_exchange.Goals as goal

pub returns : goal.returns
returns c =
    let v = core_of c.args.exchange.now in
    let k = v.setup in
    let old = string_bytes c.args.page.now in
    let one = string_bytes c.put_size.new.page in
    let two = string_bytes c.put_mode.new.page in
    let size_is = c.get.ensures.value ∙ c.size.ensures ∙ ap (λ (w : CoreView Event). w.setup.size) c.core-core.ensures in
    let producers_are = c.producers.ensures ∙ ap (λ (w : CoreView Event). producers w.setup.mode) c.core-core.ensures in
    let names_are = c.graph.ensures.names ∙ ap (λ (w : CoreView Event). w.names) c.core-core.ensures in
    let upstreams_are = c.graph.ensures.upstreams ∙ ap (λ (w : CoreView Event). w.setup.upstreams) c.core-core.ensures in
    exchange_put c.push_str.result old (codes ",\"exchange\":{\"size\":") (decimal k.size) (codes ",\"producers\":") (decimal (producers k.mode)) (codes ",\"single\":")
    (bool_text (is_single k.mode)) (codes ",\"limit\":\"") (decimal k.limit) (codes "\",\"handlers\":[") (flat_map (named_object v.names k.upstreams) (range_with_len 0 (length k.upstreams)))
    (codes "]}") one two (string_bytes c.put_names.new.page) (string_bytes c.push_str.new.self)
    (c.in_ok-put_size.ensures
    ∙ ap (λ (n : ℕ). old ++ (codes ",\"exchange\":{\"size\":" ++ decimal n ++ codes ",\"producers\":" ++ decimal c.producers.result)) size_is
    ∙ ap (λ (n : ℕ). old ++ (codes ",\"exchange\":{\"size\":" ++ decimal k.size ++ codes ",\"producers\":" ++ decimal n)) producers_are)
    (c.in_ok-put_mode.ensures
    ∙ ap (λ m. one ++ (codes ",\"single\":" ++ bool_text (is_single m) ++ codes ",\"limit\":\"" ++ decimal c.ring.result.limit ++ codes "\",\"handlers\":[")) c.ring.ensures.mode
    ∙ ap (λ (n : ℕ). one ++ (codes ",\"single\":" ++ bool_text (is_single k.mode) ++ codes ",\"limit\":\"" ++ decimal n ++ codes "\",\"handlers\":[")) c.ring.ensures.limit)
    (c.in_ok-put_names.ensures
    ∙ ap (λ (ns : List Field). two ++ flat_map (named_object ns c.graph.result.now.upstreams) (range_with_len 0 (length c.graph.result.now.upstreams))) names_are
    ∙ ap (λ (us : List (List ℕ)). two ++ flat_map (named_object v.names us) (range_with_len 0 (length us))) upstreams_are)
    c.push_str.ensures.bytes
