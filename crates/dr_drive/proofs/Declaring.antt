-- What the builder's calls do is what the drive text says of the records.
use Rattle.std.proofs.Common.{◌≡◌, inl, inr, Option, None, Some, List, [], ◌∷◌, ◌++◌, Result, Ok, Err, sym, ap, ◌∙◌, map}
use Rattle.std.proofs.lemmas.List.{length-map}
use Rattle.std.specs.Prelude.{◌⊎◌, ◌==◌, if◌then◌else◌}
use Rattle.std.specs.List.{list_all}
use Rattle.std.specs.Option.{option_or}
use Rattle.dr_graph.specs.Meaning.Declaration.{Declaration, connected, declaring_fault, followed_by, following_fault}
use Rattle.dr_graph.specs.Meaning.Declaration.{grouping_fault, none_fault, stranger_fault}
use Rattle.dr_graph.specs.Meaning.Name.{Name, is_good_name, new_names}
use Rattle.dr_graph.specs.declared.fault.GraphFault.{GraphFault}
use Rattle.dr_graph.specs.declared.fault.GraphFault.TheVariants as refused
use Rattle.dr_drive.specs.declared.fault.Cause.{Cause}
use Rattle.dr_drive.specs.Inside.Faults.{refused_by}
use Rattle.dr_drive.specs.declared.fault.Cause.TheVariants.{Graph}
use Rattle.dr_drive.specs.Meaning.Setup.{Declared, after_names, then_names, done_unless, edge_between, with_names}
use Rattle.dr_drive.specs.Calls.Shows.{AreNames, FaultAs, legible}
use Rattle.dr_drive.proofs.Legible.{accepted_names, known_names, legible_names, more_names, neither, same_declaring, same_stranger}

-- what the builder refuses is the record's fault
pub refused_as : {T : Type 0} (f : GraphFault) (t : Result T Cause) → (f ≡ refused.NoMemory) ⊎ (t ≡ Err (Graph f)) → FaultAs (refused_by f) t
refused_as refused.NoMemory t why = tt
refused_as refused.BadName t (inl e) = cc
refused_as refused.BadName t (inr e) = e
refused_as refused.Duplicate t (inl e) = cc
refused_as refused.Duplicate t (inr e) = e
refused_as refused.Stranger t (inl e) = cc
refused_as refused.Stranger t (inr e) = e
refused_as refused.Cycle t (inl e) = cc
refused_as refused.Cycle t (inr e) = e
refused_as refused.TooMany t (inl e) = cc
refused_as refused.TooMany t (inr e) = e
refused_as refused.NoHandlers t (inl e) = cc
refused_as refused.NoHandlers t (inr e) = e
refused_as refused.EmptyGroup t (inl e) = cc
refused_as refused.EmptyGroup t (inr e) = e

unless_refused : (fault seen : Option GraphFault) (f : GraphFault) (done : Declared) → seen ≡ fault → (f ≡ refused.NoMemory) ⊎ (seen ≡ Some f)
    → FaultAs (refused_by f) (done_unless fault done)
unless_refused fault seen f done same why = refused_as f (done_unless fault done) (elim why [
  | inl memory ↦ inl memory
  | inr is ↦ inr (ap (λ x. done_unless x done) (sym same ∙ is))
])

abbrev pub at : Declaration → Option (List Name) → Declared
at d group = record { declaration = d; group = group }

same_following : (declared group names : List Name) → following_fault declared group (map legible names) ≡ following_fault declared group names
same_following declared group names = ap (λ f. option_or (stranger_fault declared group) f) (same_declaring declared names)

same_grouping : (declared names : List Name) → AreNames declared → grouping_fault declared (map legible names) ≡ grouping_fault declared names
same_grouping declared names all =
    ap (λ n. option_or (if n == 0 then Some refused.EmptyGroup else None) (stranger_fault declared (map legible names))) (length-map names legible)
    ∙ ap (λ f. option_or (none_fault names) f) (same_stranger declared names all)

pub with_does : (old new : Declaration) (group : Option (List Name)) (seen made fields : List Name) → AreNames old.names → seen ≡ map legible fields
    → declaring_fault old.names seen ≡ None → new ≡ record old { names = old.names ++ seen } → made ≡ seen
    → (with_names (at old group) fields ≡ Ok (at new (Some made))) × AreNames new.names
with_does old new group seen made fields all shown free is group_is =
    let none : declaring_fault old.names fields ≡ None = sym (same_declaring old.names fields) ∙ ap (declaring_fault old.names) (sym shown) ∙ free in
    let good : AreNames fields = accepted_names old.names fields none in
    let same : seen ≡ fields = shown ∙ legible_names fields good in
    let after : Declaration = record old { names = old.names ++ fields } in
    let new_is : new ≡ after = is ∙ ap (λ ns. record old { names = old.names ++ ns }) same in
    let made_is : made ≡ fields = group_is ∙ same in (
      ap (λ f. done_unless f (at after (Some fields))) none ∙ ap (λ d. Ok (at d (Some fields))) (sym new_is) ∙ ap (λ g. Ok (at new (Some g))) (sym made_is),
      ap (λ d. list_all is_good_name d.names) new_is ∙ more_names old.names fields all good,
    )

pub with_refused : (old : Declaration) (group : Option (List Name)) (seen fields : List Name) (f : GraphFault) → seen ≡ map legible fields
    → (f ≡ refused.NoMemory) ⊎ (declaring_fault old.names seen ≡ Some f) → FaultAs (refused_by f) (with_names (at old group) fields)
with_refused old group seen fields f shown why =
    unless_refused (declaring_fault old.names fields) (declaring_fault old.names seen) f (at (record old { names = old.names ++ fields }) (Some fields)) (ap (declaring_fault old.names) shown ∙ same_declaring old.names fields) why

pub then_does : (old new : Declaration) (group seen made fields : List Name) → AreNames old.names → seen ≡ map legible fields
    → following_fault old.names group seen ≡ None → new ≡ followed_by old group seen → made ≡ seen
    → (then_names (at old (Some group)) fields ≡ Ok (at new (Some made))) × AreNames new.names
then_does old new group seen made fields all shown free is group_is =
    let none : following_fault old.names group fields ≡ None = sym (same_following old.names group fields) ∙ ap (following_fault old.names group) (sym shown) ∙ free in
    let good : AreNames fields = accepted_names old.names fields (neither (stranger_fault old.names group) (declaring_fault old.names fields) none).1 in
    let same : seen ≡ fields = shown ∙ legible_names fields good in
    let after : Declaration = followed_by old group fields in
    let new_is : new ≡ after = is ∙ ap (followed_by old group) same in
    let made_is : made ≡ fields = group_is ∙ same in (
      ap (λ f. done_unless f (at after (Some fields))) none ∙ ap (λ d. Ok (at d (Some fields))) (sym new_is) ∙ ap (λ g. Ok (at new (Some g))) (sym made_is),
      ap (λ d. list_all is_good_name d.names) new_is ∙ more_names old.names fields all good,
    )

pub then_refused : (old : Declaration) (group seen fields : List Name) (f : GraphFault) → seen ≡ map legible fields
    → (f ≡ refused.NoMemory) ⊎ (following_fault old.names group seen ≡ Some f) → FaultAs (refused_by f) (then_names (at old (Some group)) fields)
then_refused old group seen fields f shown why =
    unless_refused (following_fault old.names group fields) (following_fault old.names group seen) f (at (followed_by old group fields) (Some fields)) (ap (following_fault old.names group) shown ∙ same_following old.names group fields) why

pub after_does : (old : Declaration) (group : Option (List Name)) (seen made fields : List Name) → AreNames old.names → seen ≡ map legible fields
    → grouping_fault old.names seen ≡ None → made ≡ new_names [] seen
    → (after_names (at old group) fields ≡ Ok (at old (Some made))) × AreNames old.names
after_does old group seen made fields all shown free group_is =
    let none : grouping_fault old.names fields ≡ None = sym (same_grouping old.names fields all) ∙ ap (grouping_fault old.names) (sym shown) ∙ free in
    let good : AreNames fields = known_names old.names fields all (neither (none_fault fields) (stranger_fault old.names fields) none).1 in
    let same : seen ≡ fields = shown ∙ legible_names fields good in
    let made_is : made ≡ new_names [] fields = group_is ∙ ap (new_names []) same in
    (ap (λ f. done_unless f (at old (Some (new_names [] fields)))) none ∙ ap (λ g. Ok (at old (Some g))) (sym made_is), all)

pub after_refused : (old : Declaration) (group : Option (List Name)) (seen fields : List Name) (f : GraphFault) → AreNames old.names → seen ≡ map legible fields
    → (f ≡ refused.NoMemory) ⊎ (grouping_fault old.names seen ≡ Some f) → FaultAs (refused_by f) (after_names (at old group) fields)
after_refused old group seen fields f all shown why =
    unless_refused (grouping_fault old.names fields) (grouping_fault old.names seen) f (at old (Some (new_names [] fields))) (ap (grouping_fault old.names) shown ∙ same_grouping old.names fields all) why

head_same : {A : Type 0} (x y : A) (xs ys : List A) → x ∷ xs ≡ y ∷ ys → x ≡ y
head_same x y xs ys e = cc

tail_same : {A : Type 0} (x y : A) (xs ys : List A) → x ∷ xs ≡ y ∷ ys → xs ≡ ys
tail_same x y xs ys e = cc

pub edge_does : (old new : Declaration) (group : Option (List Name)) (up down first second_name : Name) → AreNames old.names → up ≡ legible first
    → down ≡ legible second_name
    → stranger_fault old.names (up ∷ down ∷ []) ≡ None → new ≡ connected old up down
    → (edge_between (at old group) first second_name ≡ Ok (at new group)) × AreNames new.names
edge_does old new group up down first second_name all up_is down_is free is =
    let fields : List Name = first ∷ second_name ∷ [] in
    let shown : up ∷ down ∷ [] ≡ map legible fields = ap (λ n. n ∷ down ∷ []) up_is ∙ ap (λ n. legible first ∷ n ∷ []) down_is in
    let none : stranger_fault old.names fields ≡ None = sym (same_stranger old.names fields all) ∙ ap (stranger_fault old.names) (sym shown) ∙ free in
    let good : AreNames fields = known_names old.names fields all none in
    let same : up ∷ down ∷ [] ≡ fields = shown ∙ legible_names fields good in
    let up_same : up ≡ first = head_same up first (down ∷ []) (second_name ∷ []) same in
    let down_same : down ≡ second_name = head_same down second_name [] [] (tail_same up first (down ∷ []) (second_name ∷ []) same) in
    let new_is : new ≡ connected old first second_name = is ∙ ap (λ n. connected old n down) up_same ∙ ap (connected old first) down_same in (
      ap (λ f. done_unless f (at (connected old first second_name) group)) none ∙ ap (λ d. Ok (at d group)) (sym new_is),
      ap (λ d. list_all is_good_name d.names) new_is ∙ all,
    )

pub edge_refused : (old : Declaration) (group : Option (List Name)) (up down first second_name : Name) (f : GraphFault) → AreNames old.names
    → up ≡ legible first → down ≡ legible second_name
    → (f ≡ refused.NoMemory) ⊎ (stranger_fault old.names (up ∷ down ∷ []) ≡ Some f) → FaultAs (refused_by f) (edge_between (at old group) first second_name)
edge_refused old group up down first second_name f all up_is down_is why =
    let fields : List Name = first ∷ second_name ∷ [] in
    let shown : up ∷ down ∷ [] ≡ map legible fields = ap (λ n. n ∷ down ∷ []) up_is ∙ ap (λ n. legible first ∷ n ∷ []) down_is in
    unless_refused (stranger_fault old.names fields) (stranger_fault old.names (up ∷ down ∷ [])) f (at (connected old first second_name) group) (ap (stranger_fault old.names) shown ∙ same_stranger old.names fields all) why
