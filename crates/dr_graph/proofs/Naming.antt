-- Faults of names, one after another.
use Rattle.std.proofs.Common.{
  ◌≡◌,
  ℕ,
  zero,
  suc,
  ◌+◌,
  ◌<◌,
  ◌≤◌,
  List,
  [],
  ◌∷◌,
  ◌++◌,
  Bool,
  true,
  false,
  refl,
  sym,
  ◌∙◌,
  ap,
  arith,
  map,
  take,
  drop,
  length,
  get_or,
  append_assoc,
  append-nil,
  add-one,
  None,
  Some,
  Option,
}
use Rattle.std.proofs.lemmas.Bool.{false≢true, true≢false}
use Rattle.std.proofs.lemmas.List.Folds.{list_any-append}
use Rattle.std.specs.Prelude.{◌||◌, is_some, cond, not}
use Rattle.std.specs.Option.{option_or}
use Rattle.std.specs.List.{list_any}
use Rattle.std.specs.Str.{bytes_eq}
use Rattle.dr_graph.specs.declared.fault.GraphFault.{GraphFault}
use Rattle.dr_graph.specs.declared.fault.GraphFault.TheVariants.{BadName, Duplicate}
use Rattle.dr_graph.specs.Meaning.Name.{Name, is_named, is_good_name}
use Rattle.dr_graph.specs.Meaning.Declaration.{name_fault, name_faults}

-- a test of what is made of each value
pub list_any-map : {X Z : Type 0} (p : X → Bool) (h : Z → X) (zs : List Z) → list_any p (map h zs) ≡ list_any (λ z. p (h z)) zs
list_any-map p h [] = refl
list_any-map p h (z ∷ zs) = ap (λ b. p (h z) || b) (list_any-map p h zs)

pub any_map : {Z : Type 0} (h : Z → Name) (zs : List Z) (m : Name) → list_any (bytes_eq m) (map h zs) ≡ list_any (λ z. bytes_eq m (h z)) zs
any_map h zs m = list_any-map (bytes_eq m) h zs

pub named_split : {X Y : Type 0} (f : X → Name) (g : Y → Name) (xs : List X) (ys : List Y) (n : Name)
    → is_named (map f xs ++ map g ys) n ≡ (list_any (λ x. bytes_eq n (f x)) xs || list_any (λ y. bytes_eq n (g y)) ys)
named_split f g xs ys n =
    list_any-append (bytes_eq n) (map f xs) (map g ys)
    ∙ ap (λ b. b || is_named (map g ys) n) (any_map f xs n)
    ∙ ap (λ b. list_any (λ x. bytes_eq n (f x)) xs || b) (any_map g ys n)

-- one name more
pub faults_at : {X : Type 0} (f : X → Name) (declared : List Name) (xs : List X) (i : ℕ) (d : X) → i < length xs
    → name_faults (declared ++ map f (take i xs)) (map f (drop i xs)) ≡ option_or (name_fault (declared ++ map f (take i xs)) (f (get_or xs i d))) (name_faults (declared ++ map f (take (suc i) xs)) (map f (drop (suc i) xs)))
unfolding name_faults
faults_at f declared [] i d h = absurd (omega arith)
faults_at f declared (x ∷ xs) zero d h =
    ap (λ (ns : List Name). option_or (name_fault (declared ++ []) (f x)) (name_faults ns (map f xs))) (append_assoc declared [] (f x ∷ []))
faults_at f declared (x ∷ xs) (suc i) d h =
    let before : (declared ++ f x ∷ []) ++ map f (take i xs) ≡ declared ++ f x ∷ map f (take i xs) = append_assoc declared (f x ∷ []) (map f (take i xs)) in
    let after : (declared ++ f x ∷ []) ++ map f (take (suc i) xs) ≡ declared ++ f x ∷ map f (take (suc i) xs) =
    append_assoc declared (f x ∷ []) (map f (take (suc i) xs)) in
    let shorter : name_faults ((declared ++ f x ∷ []) ++ map f (take i xs)) (map f (drop i xs)) ≡ option_or (name_fault ((declared ++ f x ∷ []) ++ map f (take i xs)) (f (get_or xs i d))) (name_faults ((declared ++ f x ∷ []) ++ map f (take (suc i) xs)) (map f (drop (suc i) xs))) = faults_at f (declared ++ f x ∷ []) xs i d (omega arith) in
    ap (λ (ns : List Name). name_faults ns (map f (drop i xs))) (sym before)
    ∙ shorter
    ∙ ap (λ (ns : List Name). option_or (name_fault ns (f (get_or xs i d))) (name_faults ((declared ++ f x ∷ []) ++ map f (take (suc i) xs)) (map f (drop (suc i) xs)))) before
    ∙ ap (λ (ns : List Name). option_or (name_fault (declared ++ f x ∷ map f (take i xs)) (f (get_or xs i d))) (name_faults ns (map f (drop (suc i) xs)))) after

pub faults_begin : {X : Type 0} (f : X → Name) (declared : List Name) (xs : List X)
    → name_faults declared (map f xs) ≡ name_faults (declared ++ map f (take 0 xs)) (map f (drop 0 xs))
faults_begin f declared xs = ap (λ (ns : List Name). name_faults ns (map f xs)) (sym (append-nil declared))

pub faults_end : {X : Type 0} (f : X → Name) (declared : List Name) (xs : List X) (i : ℕ) → length xs ≤ i → name_faults declared (map f (drop i xs)) ≡ None
unfolding name_faults
faults_end f declared [] zero h = refl
faults_end f declared [] (suc i) h = refl
faults_end f declared (x ∷ xs) zero h = absurd (omega arith)
faults_end f declared (x ∷ xs) (suc i) h = faults_end f declared xs i (omega arith)

-- the first name at fault, and a name without fault
pub fault_here : (o p : Option GraphFault) → is_some o ≡ true → option_or o p ≡ o
fault_here None p h = absurd (false≢true h)
fault_here (Some fault) p h = refl

pub fault_later : (o p : Option GraphFault) → is_some o ≡ false → option_or o p ≡ p
fault_later None p h = refl
fault_later (Some fault) p h = absurd (true≢false h)

-- the turn of one name in a loop over names
pub stops_here : {X : Type 0} (f : X → Name) (declared : List Name) (xs : List X) (i : ℕ) (d : X) (whole fault : Option GraphFault)
    → whole ≡ name_faults (declared ++ map f (take i xs)) (map f (drop i xs)) → i < length xs
    → fault ≡ name_fault (declared ++ map f (take i xs)) (f (get_or xs i d)) → is_some fault ≡ true → fault ≡ whole
stops_here f declared xs i d whole fault so_far h here some =
    let rest : Option GraphFault = name_faults (declared ++ map f (take (suc i) xs)) (map f (drop (suc i) xs)) in
    sym (so_far ∙ faults_at f declared xs i d h ∙ ap (λ (o : Option GraphFault). option_or o rest) (sym here) ∙ fault_here fault rest some)

pub goes_past : {X : Type 0} (f : X → Name) (declared : List Name) (xs : List X) (i : ℕ) (d : X) (whole fault : Option GraphFault)
    → whole ≡ name_faults (declared ++ map f (take i xs)) (map f (drop i xs)) → i < length xs
    → fault ≡ name_fault (declared ++ map f (take i xs)) (f (get_or xs i d)) → is_some fault ≡ false
    → whole ≡ name_faults (declared ++ map f (take (i + 1) xs)) (map f (drop (i + 1) xs))
goes_past f declared xs i d whole fault so_far h here none =
    let rest : Option GraphFault = name_faults (declared ++ map f (take (suc i) xs)) (map f (drop (suc i) xs)) in
    so_far ∙ faults_at f declared xs i d h ∙ ap (λ (o : Option GraphFault). option_or o rest) (sym here) ∙ fault_later fault rest none
    ∙ ap (λ (n : ℕ). name_faults (declared ++ map f (take n xs)) (map f (drop n xs))) (sym (add-one i))

-- the same, where the names before are given as others that they equal
module _ {X : Type 0} (f : X → Name) (declared before : List Name) (xs : List X) (i : ℕ) (d : X) (whole fault : Option GraphFault) (same : before ≡ map f (take i xs)) (so_far : whole ≡ name_faults (declared ++ map f (take i xs)) (map f (drop i xs))) (h : i < length xs) (here : fault ≡ name_fault (declared ++ before) (f (get_or xs i d))) where
  after_same : fault ≡ name_fault (declared ++ map f (take i xs)) (f (get_or xs i d))
  after_same = here ∙ ap (λ (ns : List Name). name_fault (declared ++ ns) (f (get_or xs i d))) same

  pub stops_after : is_some fault ≡ true → fault ≡ whole
  stops_after some = stops_here f declared xs i d whole fault so_far h after_same some

  pub goes_after : is_some fault ≡ false → whole ≡ name_faults (declared ++ map f (take (i + 1) xs)) (map f (drop (i + 1) xs))
  goes_after none = goes_past f declared xs i d whole fault so_far h after_same none

pub nothing : (o : Option GraphFault) → is_some o ≡ false → o ≡ None
nothing None h = refl
nothing (Some fault) h = absurd (true≢false h)

pub or_none : (a b : Bool) → (a || b) ≡ false → b ≡ false
or_none true b e = absurd (true≢false e)
or_none false b e = e

pub none_fault : (good known : Bool) → cond (not good) (Some BadName) (cond known (Some Duplicate) None) ≡ None → known ≡ false
none_fault true true e = cc
none_fault false true e = cc
none_fault good false e = refl

none_or : (o p : Option GraphFault) → option_or o p ≡ None → (o ≡ None) × (p ≡ None)
none_or None p e = (refl, e)
none_or (Some x) p e = cc

-- names without fault are new, one after another
pub free_next : (declared : List Name) (name : Name) (names : List Name) → name_faults declared (name ∷ names) ≡ None
    → (is_named declared name ≡ false) × (name_faults (declared ++ name ∷ []) names ≡ None)
unfolding name_faults
free_next declared name names e =
    let both : (name_fault declared name ≡ None) × (name_faults (declared ++ name ∷ []) names ≡ None) =
    none_or (name_fault declared name) (name_faults (declared ++ name ∷ []) names) e in
    (none_fault (is_good_name name) (is_named declared name) both.0, both.1)
