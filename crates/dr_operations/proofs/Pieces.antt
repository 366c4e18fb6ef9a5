-- An event file that comes in pieces.
use Rattle.std.proofs.Common.{◌≡◌, ◌≤◌, ◌+◌, ℕ, List, [], ◌++◌, ◌∷◌, Vec, flat_map, length, drop, drop-cons, get_or, add-one, suc, ◌<◌, None, Result, Ok, sym, ap, subst, ◌∙◌, append_assoc, append-nil}
use Rattle.std.proofs.lemmas.List.{drop_all}
use Rattle.std.specs.declared.alloc.Global.{Global}
use Rattle.dr_seq.specs.declared.event.Event.{Event}
use Rattle.dr_files.specs.declared.fault.FileFault.{FileFault}
use Rattle.dr_files.specs.declared.fault.FileFault.TheVariants as file
use Rattle.dr_operations.specs.declared.cause.Cause.{Cause}
use Rattle.dr_operations.specs.declared.event_stream.EventStream.{EventStream}
use Rattle.dr_operations.specs.Arriving.{Arrival, Stops, behind, read_of, to_come}
use Rattle.dr_operations.specs.EventFile.{events_of}
use Rattle.dr_operations.specs.Reading.{FileFaultIs}

-- the bytes of all pieces
abbrev pub joined : List (Vec ℕ Global) → List ℕ
joined pieces = flat_map (λ piece. piece.items) pieces

-- what a first stream gives of all pieces is what was given of some, and what comes of the rest
abbrev pub Pieced : EventStream → EventStream → List (Vec ℕ Global) → ℕ → List Event → Type 0
Pieced first now pieces i given = (more : List ℕ) → to_come first (joined pieces ++ more) ≡ behind given (to_come now (joined (drop i pieces) ++ more))

piece_of : (pieces : List (Vec ℕ Global)) (i : ℕ) (piece : Vec ℕ Global) (more : List ℕ) → i < length pieces → piece ≡ get_or pieces i piece
    → joined (drop i pieces) ++ more ≡ piece.items ++ (joined (drop (i + 1) pieces) ++ more)
piece_of pieces i piece more less is =
    let cut : drop i pieces ≡ piece ∷ drop (i + 1) pieces = rw add-one (drop-cons pieces i piece less ∙ ap (λ p. p ∷ drop (suc i) pieces) (sym is)) in
    ap (λ l. joined l ++ more) cut ∙ append_assoc piece.items (joined (drop (i + 1) pieces)) more

pub pieced_on : (first now new : EventStream) (pieces : List (Vec ℕ Global)) (i : ℕ) (piece : Vec ℕ Global) (bytes : List ℕ) (between given : List Event) → i < length pieces → piece ≡ get_or pieces i piece
    → Pieced first now pieces i between
    → bytes ≡ piece.items → ((more : List ℕ) → behind between (to_come now (bytes ++ more)) ≡ behind given (to_come new more)) → Pieced first new pieces (i + 1) given
pieced_on first now new pieces i piece bytes between given less is so_far same feeds = λ more.
    so_far more ∙ ap (λ l. behind between (to_come now l)) (piece_of pieces i piece more less is)
    ∙ ap (λ l. behind between (to_come now (l ++ (joined (drop (i + 1) pieces) ++ more)))) (sym same) ∙ feeds (joined (drop (i + 1) pieces) ++ more)

-- what comes of a first stream is what its file is read as
file_fault : (e : FileFault Cause) (whole : Result (List Event) ℕ) (a : Arrival) (given : List Event) → read_of a ≡ whole → Stops e a given → FileFaultIs e whole
file_fault (file.Input k cause) whole a given is stop = (sym is ∙ ap read_of stop.1, stop.0)
file_fault file.Memory whole a given is stop = tt
file_fault file.Read whole a given is stop = tt
file_fault file.Write whole a given is stop = absurd stop

pub pieced_stop : (e : FileFault Cause) (first now : EventStream) (pieces : List (Vec ℕ Global)) (i : ℕ) (piece : Vec ℕ Global) (bytes : List ℕ) (between given : List Event) → i < length pieces → piece ≡ get_or pieces i piece
    → ((text : List ℕ) → read_of (to_come first text) ≡ events_of text) → Pieced first now pieces i between
    → bytes ≡ piece.items → ((more : List ℕ) → Stops e (behind between (to_come now (bytes ++ more))) given) → FileFaultIs e (events_of (joined pieces))
pieced_stop e first now pieces i piece bytes between given less is reads so_far same_bytes stop =
    let same = so_far [] ∙ ap (λ l. behind between (to_come now l)) (piece_of pieces i piece [] less is)
    ∙ ap (λ l. behind between (to_come now (l ++ (joined (drop (i + 1) pieces) ++ [])))) (sym same_bytes) in
    let whole = reads (joined pieces ++ []) ∙ ap events_of (append-nil (joined pieces)) in
    file_fault e (events_of (joined pieces)) (to_come first (joined pieces ++ [])) given whole
    (subst (λ (a : Arrival). Stops e a given) (sym same) (stop (joined (drop (i + 1) pieces) ++ [])))

pieced_all : (first now : EventStream) (pieces : List (Vec ℕ Global)) (i : ℕ) (given : List Event) → length pieces ≤ i → Pieced first now pieces i given
    → to_come first (joined pieces ++ []) ≡ behind given (to_come now [])
pieced_all first now pieces i given end so_far = so_far [] ∙ ap (λ l. behind given (to_come now (joined l ++ []))) (drop_all i pieces end)

pub pieced_end : (first now : EventStream) (pieces : List (Vec ℕ Global)) (i : ℕ) (between given : List Event) → length pieces ≤ i
    → ((text : List ℕ) → read_of (to_come first text) ≡ events_of text) → Pieced first now pieces i between
    → behind between (to_come now []) ≡ record { events = given; bad = None } → events_of (joined pieces) ≡ Ok given
pieced_end first now pieces i between given end reads so_far finished =
    let whole = reads (joined pieces ++ []) ∙ ap events_of (append-nil (joined pieces)) in
    sym whole ∙ ap read_of (pieced_all first now pieces i between end so_far ∙ finished)

pub pieced_end_stop : (e : FileFault Cause) (first now : EventStream) (pieces : List (Vec ℕ Global)) (i : ℕ) (between given : List Event) → length pieces ≤ i
    → ((text : List ℕ) → read_of (to_come first text) ≡ events_of text) → Pieced first now pieces i between
    → Stops e (behind between (to_come now [])) given → FileFaultIs e (events_of (joined pieces))
pieced_end_stop e first now pieces i between given end reads so_far stop =
    let whole = reads (joined pieces ++ []) ∙ ap events_of (append-nil (joined pieces)) in
    file_fault e (events_of (joined pieces)) (to_come first (joined pieces ++ [])) given whole
    (subst (λ (a : Arrival). Stops e a given) (sym (pieced_all first now pieces i between end so_far)) stop)
