-- Names that are added at the end.
use Rattle.std.proofs.Common.{
  ◌≡◌,
  ℕ,
  ◌+◌,
  ◌<◌,
  ◌≤◌,
  inl,
  inr,
  List,
  [],
  ◌∷◌,
  ◌++◌,
  true,
  false,
  sym,
  ◌∙◌,
  ap,
  subst,
  map,
  take,
  drop,
  length,
  get_or,
  append_assoc,
  append-nil,
  drop-cons,
  add-one,
  String,
  Global,
}
use Rattle.std.proofs.lemmas.Bool.{cases_Bool, cond-true, cond-false}
use Rattle.std.proofs.lemmas.List.{map_push, drop_all, take_more}
use Rattle.std.proofs.lemmas.List.Folds.{list_any-append}
use Rattle.std.specs.List.{list_any}
use Rattle.std.specs.Prelude.{Option, is_some}
use Rattle.std.specs.Str.{bytes_eq}
use Rattle.std.specs.String.{string_bytes, string_eq}
use Rattle.indexmap.specs.IndexSet.{insert_key}
use Rattle.dr_graph.specs.Meaning.Declaration.{name_fault}
use Rattle.dr_graph.specs.Meaning.Name.{Name, texts, is_good_name, is_named, new_names}
use Rattle.dr_graph.specs.declared.fault.GraphFault.{GraphFault}
use Rattle.dr_graph.proofs.Naming.{any_map, none_fault, nothing, or_none}
use Rattle.dr_graph.proofs.NewNames.{new_skips, new_grows, new_none}

abbrev pub text : String Global → Name
text s = string_bytes s

-- the keys are the old ones and some more, and with what is left to add they come to the same
pub record IsAdding (old keys : List (String Global)) (left : List Name) (all : List Name) : Type 0 where
  pub extra : List (String Global)
  pub keys_are : keys ≡ old ++ extra
  pub whole : texts keys ++ new_names (texts keys) left ≡ texts old ++ new_names (texts old) all

known_key : (keys : List (String Global)) (k : String Global) → is_named (texts keys) (string_bytes k) ≡ true → insert_key string_eq keys k ≡ keys
known_key keys k known = cond-true (list_any (string_eq k) keys) keys (keys ++ k ∷ []) (sym (any_map text keys (string_bytes k)) ∙ known)

fresh_key : (keys : List (String Global)) (k : String Global) → is_named (texts keys) (string_bytes k) ≡ false → insert_key string_eq keys k ≡ keys ++ k ∷ []
fresh_key keys k new = cond-false (list_any (string_eq k) keys) keys (keys ++ k ∷ []) (sym (any_map text keys (string_bytes k)) ∙ new)

-- one name more
pub adding_next : (old keys after : List (String Global)) (name : Name) (left all : List Name) (k : String Global)
    → IsAdding old keys (name ∷ left) all → string_bytes k ≡ name → after ≡ insert_key string_eq keys k → IsAdding old after left all
adding_next old keys after name left all k was same e =
    elim (cases_Bool (is_named (texts keys) name)) [
      | inl known ↦ (
          let stays : after ≡ keys = e ∙ known_key keys k (ap (is_named (texts keys)) same ∙ known) in
          record {
            extra = was.extra;
            keys_are = stays ∙ was.keys_are;
            whole = ap (λ (ks : List (String Global)). texts ks ++ new_names (texts ks) left) stays
                ∙ ap (λ (ns : List Name). texts keys ++ ns) (sym (new_skips (texts keys) name left known))
                ∙ was.whole;
          })
      | inr new ↦ (
          let grows : after ≡ keys ++ k ∷ [] = e ∙ fresh_key keys k (ap (is_named (texts keys)) same ∙ new) in
          let names : texts after ≡ texts keys ++ name ∷ [] = ap texts grows ∙ map_push text keys k ∙ ap (λ (n : Name). texts keys ++ n ∷ []) same in
          record {
            extra = was.extra ++ k ∷ [];
            keys_are = grows ∙ ap (λ (ks : List (String Global)). ks ++ k ∷ []) was.keys_are ∙ append_assoc old was.extra (k ∷ []);
            whole = ap (λ (ns : List Name). ns ++ new_names ns left) names
                ∙ append_assoc (texts keys) (name ∷ []) (new_names (texts keys ++ name ∷ []) left)
                ∙ ap (λ (ns : List Name). texts keys ++ ns) (sym (new_grows (texts keys) name left new))
                ∙ was.whole;
          })
    ]

pub adding_done : (old keys : List (String Global)) (left all : List Name) → IsAdding old keys left all → left ≡ []
    → texts keys ≡ texts old ++ new_names (texts old) all
adding_done old keys left all was none =
    sym (append-nil (texts keys)) ∙ ap (λ (ns : List Name). texts keys ++ ns) (sym (new_none (texts keys)) ∙ ap (new_names (texts keys)) (sym none)) ∙ was.whole

-- what is left of some names, one name later, and at the end
pub left_next : {X : Type 0} (f : X → Name) (xs : List X) (i : ℕ) (d : X) → i < length xs → map f (drop i xs) ≡ f (get_or xs i d) ∷ map f (drop (i + 1) xs)
left_next f xs i d lt = ap (map f) (drop-cons xs i d lt) ∙ ap (λ (k : ℕ). f (get_or xs i d) ∷ map f (drop k xs)) (sym (add-one i))

pub left_none : {X : Type 0} (f : X → Name) (xs : List X) (i : ℕ) → length xs ≤ i → map f (drop i xs) ≡ []
left_none f xs i past = ap (map f) (drop_all i xs past)

-- the turn of one name in a loop over names
pub adding_at : {X : Type 0} (f : X → Name) (xs : List X) (i : ℕ) (d : X) (old keys after : List (String Global)) (all : List Name) (k : String Global) → IsAdding old keys (map f (drop i xs)) all → i < length xs → string_bytes k ≡ f (get_or xs i d) → after ≡ insert_key string_eq keys k → IsAdding old after (map f (drop (i + 1) xs)) all
adding_at f xs i d old keys after all k was lt same e =
    adding_next old keys after (f (get_or xs i d)) (map f (drop (i + 1) xs)) all k (subst (λ (ns : List Name). IsAdding old keys ns all) (left_next f xs i d lt) was) same e

-- the names of a call that are in a set, one name later: a name without fault is new there
pub seen_next : {X : Type 0} (f : X → Name) (declared keys after : List (String Global)) (xs : List X) (i : ℕ) (d : X) (k : String Global) (fault : Option GraphFault)
    → texts keys ≡ map f (take i xs) → i < length xs → fault ≡ name_fault (texts declared ++ texts keys) (f (get_or xs i d)) → is_some fault ≡ false
    → string_bytes k ≡ f (get_or xs i d) → after ≡ insert_key string_eq keys k → texts after ≡ map f (take (i + 1) xs)
seen_next f declared keys after xs i d k fault was lt here none same e =
    let name : Name = f (get_or xs i d) in
    let known : is_named (texts declared ++ texts keys) name ≡ false =
    none_fault (is_good_name name) (is_named (texts declared ++ texts keys) name) (sym here ∙ nothing fault none) in
    let new : is_named (texts keys) name ≡ false =
    or_none (is_named (texts declared) name) (is_named (texts keys) name) (sym (list_any-append (bytes_eq name) (texts declared) (texts keys)) ∙ known) in
    ap texts (e ∙ fresh_key keys k (ap (is_named (texts keys)) same ∙ new))
    ∙ map_push text keys k
    ∙ ap (λ (n : Name). texts keys ++ n ∷ []) same
    ∙ ap (λ (ns : List Name). ns ++ name ∷ []) was
    ∙ sym (map_push f (take i xs) (get_or xs i d))
    ∙ ap (map f) (sym (take_more xs i d lt))
