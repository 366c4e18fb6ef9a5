-- What the build of a graph answers is what the drive text says of `start`.
use Rattle.std.proofs.Common.{◌≡◌, ◌==◌, false, inl, inr, Option, List, [], ◌∷◌, Result, Ok, Err, refl, sym, ap, ◌∙◌, length, arith, if◌then◌else◌}
use Rattle.std.proofs.lemmas.Bool.{ne_eqb}
use Rattle.std.specs.Prelude.{◌⊎◌}
use Rattle.dr_graph.specs.Meaning.Declaration.{Declaration, IsDeclaration}
use Rattle.dr_graph.specs.Meaning.Graph.{IsGraphOf, GraphView}
use Rattle.dr_graph.specs.Meaning.Name.{Name}
use Rattle.dr_graph.specs.Meaning.Order.{HasCycle}
use Rattle.dr_graph.specs.Meaning.Placing.{FindsGraph, graph_of}
use Rattle.dr_graph.specs.declared.fault.GraphFault.{GraphFault}
use Rattle.dr_graph.specs.declared.fault.GraphFault.TheVariants.{Cycle, NoHandlers, NoMemory}
use Rattle.dr_drive.specs.Inside.Faults.{refused_by}
use Rattle.dr_drive.specs.declared.fault.Cause.TheVariants.{Graph}
use Rattle.dr_drive.specs.declared.setup.ring_records.Ring.{Ring}
use Rattle.dr_drive.specs.Meaning.Setup.{Opens, opened, started}
use Rattle.dr_drive.specs.Calls.Shows.{FaultAs, ring_setup}
use Rattle.dr_drive.proofs.Declaring.{at, refused_as}

-- with handlers, the graph decides
decided : (ring : Ring) (names : List Name) (d : Declaration) (group : Option (List Name)) → d.names ≡ names → (names ≡ [] → ⊥)
    → started ring (at d group) ≡ opened ring (graph_of d)
decided ring [] d group is some = absurd (some refl)
decided ring (n ∷ names) d group is some =
    let long : length d.names ≡ length (n ∷ names) = ap length is in
    let not_none : (length d.names == 0) ≡ false = ne_eqb (length d.names) 0 (λ e. omega arith) in
    ap (λ b. if b then Err (Graph NoHandlers) else opened ring (graph_of d)) not_none

pub start_opens : (ring : Ring) (d : Declaration) (group : Option (List Name)) (graph : GraphView) → FindsGraph d → (d.names ≡ [] → ⊥) → IsGraphOf d graph
    → started ring (at d group) ≡ Ok (Opens graph.names (ring_setup ring graph))
start_opens ring d group graph finds some is = decided ring d.names d group refl some ∙ ap (opened ring) (finds.whole graph is)

without : (ring : Ring) (d : Declaration) (group : Option (List Name)) → d.names ≡ [] → started ring (at d group) ≡ Err (Graph NoHandlers)
without ring d group none = ap (λ k. if k == 0 then Err (Graph NoHandlers) else opened ring (graph_of d)) (ap length none)

pub same_fault : {A : Type 0} (f g : GraphFault) → ◌≡◌ {A = Result A GraphFault} (Err f) (Err g) → f ≡ g
same_fault f g e = cc

pub unlike : {A : Type 0} (x : A) → ◌≡◌ {A = Result A GraphFault} (Ok x) (Err NoHandlers) → ⊥
unlike x e = cc

no_such : {A : Type 0} → ◌≡◌ {A = GraphFault} Cycle NoHandlers → A
no_such e = cc

pub start_refused : (ring : Ring) (d : Declaration) (group : Option (List Name)) (f : GraphFault) → FindsGraph d → IsDeclaration d
    → (f ≡ NoHandlers → d.names ≡ []) → (d.names ≡ [] → f ≡ NoHandlers) → (f ≡ Cycle → HasCycle d.edges)
    → (f ≡ NoHandlers) ⊎ ((f ≡ Cycle) ⊎ (f ≡ NoMemory)) → FaultAs (refused_by f) (started ring (at d group))
start_refused ring d group f finds is none only cycle (inl no_handler) = refused_as f (started ring (at d group)) (inr (without ring d group (none no_handler) ∙ ap (λ x. Err (Graph x)) (sym no_handler)))
start_refused ring d group f finds is none only cycle (inr (inl cyclic)) =
    let some : d.names ≡ [] → ⊥ = λ empty. no_such (sym cyclic ∙ only empty) in
    refused_as f (started ring (at d group)) (inr (decided ring d.names d group refl some ∙ ap (opened ring) (finds.acyclic is.within (cycle cyclic)) ∙ ap (λ x. Err (Graph x)) (sym cyclic)))
start_refused ring d group f finds is none only cycle (inr (inr memory)) = refused_as f (started ring (at d group)) (inl memory)
