-- What the ends of a ring need besides its table.
use Rattle.std.specs.Prelude.{◌≡◌, ℕ, List, map, replicate}
use Rattle.std.specs.Global.{Vec}
use Rattle.dr_cells.specs.declared.token.Token.{Token}
use Rattle.dr_cells.specs.Tokens.{no_token}
use Rattle.dr_plain_senders.specs.Inside.Owned.{Owned}
use Rattle.dr_plain_senders.specs.declared.rooms.Rooms.{Rooms}
use Rattle.dr_plain_senders.specs.Meaning.Shape.{Shape, handlers_of}
use Rattle.dr_plain_senders.specs.Meaning.Words.{words_of}
use Rattle.dr_plain_senders.specs.Inside.BroughtTogether.{HasPlaces}

-- the marks of a sender that has claimed nothing
abbrev pub unmarked : ℕ → Owned
unmarked n = record { claimed = replicate n 0; written = replicate n 0; published = replicate n 0 }

-- so many rows, each of so many tokens of no cell
abbrev pub AreBlankRows : {T : Type 0} → ℕ → ℕ → List (Vec (Token T)) → Type 0
AreBlankRows {T} count size rows = map (λ (row : Vec (Token T)). row.items) rows ≡ replicate count (replicate size no_token)

pub record AreRooms {T : Type 0} (k : Shape T) (rooms : Rooms T) : Type 0 where
  pub words : rooms.words.items ≡ replicate (words_of k) 0
  pub places : HasPlaces (handlers_of k) k.size rooms.gathered
  pub marks : rooms.marks.items ≡ replicate k.senders (unmarked k.size)
  pub tokens : AreBlankRows k.senders k.size rooms.tokens.items
  pub parts : AreBlankRows (handlers_of k) k.size rooms.parts.items
