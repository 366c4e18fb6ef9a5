use Rattle.std.proofs.Common.{◌++◌, ◌∙◌, ap, codes, flat_map, length, List, ℕ, [], string_bytes}
use Rattle.std.specs.Prelude.{slice_index_or}
use Rattle.std.specs.List.{range_with_len}
use Rattle.dr_graph.specs.Meaning.Graph.{upstreams_of}
use Rattle.dr_show.specs.Meaning.Texts.{bytes_text, comma_before}
use Rattle.dr_show.specs.Meaning.StateText.{upstream_text}
use Rattle.dr_show.proofs.Naming.{named_put}
use Rattle.dr_show.proofs.exchanges.put_name.Goals as goal

pub returns : goal.returns
returns c =
    let h = c.args.h in
    let graph = c.args.graph.now in
    let old = string_bytes c.args.page.now in
    let opened = string_bytes c.put_opening.new.page in
    let ups = flat_map (upstream_text (upstreams_of graph.upstreams h)) (range_with_len 0 (length (upstreams_of graph.upstreams h))) in
    named_put c.push_str.result old (comma_before h) (codes "{\"name\":\"") (bytes_text (slice_index_or graph.names h [])) (codes "\",\"upstreams\":[") ups (codes "]}")
    opened (string_bytes c.put_upstreams.new.page) (string_bytes c.push_str.new.self)
    (c.in_ok-put_opening.ensures ∙ ap (λ (name : List ℕ). old ++ (comma_before h ++ codes "{\"name\":\"" ++ bytes_text name ++ codes "\",\"upstreams\":[")) c.name_of.ensures)
    (c.in_ok-put_upstreams.ensures ∙ ap (λ (us : List ℕ). opened ++ flat_map (upstream_text us) (range_with_len 0 (length us))) c.upstreams.ensures)
    c.push_str.ensures.bytes
