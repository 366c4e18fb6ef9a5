-- Names of handlers, and lists of them. A name is its bytes.
use Rattle.std.specs.Prelude.{◌≢◌, ℕ, Bool, ◌&&◌, ◌||◌, ◌==◌, nat_le, if◌then◌else◌, List, [], ◌∷◌, ◌++◌, length, map, AllPairs, string_bytes, String}
use Rattle.std.specs.List.{list_any, list_all, position_or_len}
use Rattle.std.specs.Char.{is_ascii_alphanumeric}
use Rattle.std.specs.Str.{bytes_eq}
use Rattle.std.specs.Borrow.{Bor}
use Rattle.std.specs.declared.alloc.Global.{Global}

abbrev pub Name : Type 0
Name = List ℕ

-- the names that strings hold
abbrev pub texts : List (String Global) → List Name
texts strings = map (λ s. string_bytes s) strings

-- the names that are passed to a call
abbrev pub given : List (Bor (List ℕ)) → List Name
given names = map (λ n. n.now) names

-- a letter, a digit, an underscore (95) or a dash (45)
abbrev pub is_name_byte : ℕ → Bool
is_name_byte b = is_ascii_alphanumeric b || b == 95 || b == 45

abbrev pub is_good_name : Name → Bool
is_good_name name = nat_le 1 (length name) && nat_le (length name) 32 && list_all is_name_byte name

abbrev pub is_named : List Name → Name → Bool
is_named names name = list_any (bytes_eq name) names

-- the place of a name, or the number of names where it is none of them
abbrev pub index_of : List Name → Name → ℕ
index_of names name = position_or_len (bytes_eq name) names

-- no name stands twice
abbrev pub AreDistinct : List Name → Type 0
AreDistinct names = AllPairs (λ a b. a ≢ b) names

-- those of some names that a list does not have yet, each once
unfoldable pub new_names : List Name → List Name → List Name
new_names names [] = []
new_names names (more ∷ rest) = if is_named names more then new_names names rest else more ∷ new_names (names ++ more ∷ []) rest
