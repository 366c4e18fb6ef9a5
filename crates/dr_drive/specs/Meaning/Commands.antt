-- The commands of a file, one a record.
use Rattle.std.specs.Prelude.{ℕ, ◌+◌, min, if◌then◌else◌, List, [], ◌∷◌, Option, Some, None, bytes_eq, codes}
use Rattle.dr_seq.specs.declared.event.Event.{Event}
use Rattle.dr_meaning.specs.declared.command.Command.{Command}
use Rattle.dr_meaning.specs.declared.command.Command.TheVariants.{Claim, Write, Publish, Poll, Complete, Halt, Retire}
use Rattle.dr_records.specs.Records.{Field, Record, ◌>>=◌, field, is_record, number_at}

-- the number of a handler by its name. A name that is no handler's has the number of handlers, which no handler has.
abbrev pub handler_of : List Field → Field → ℕ
handler_of [] name = 0
handler_of (handler ∷ handlers) name = if bytes_eq name handler then 0 else handler_of handlers name + 1

-- no batch is longer than the greatest ring, so a greater MAX is read as this one
abbrev pub greatest_batch : ℕ
greatest_batch = 65536

-- `claim,P,N`
abbrev pub claim : Record → Option (Command Event)
claim r = do
  p ← number_at r 1
  n ← number_at r 2
  Some (Claim p n)

-- `write,P,S,V`: an event whose second word is 0
abbrev pub write_one : Record → Option (Command Event)
write_one r = do
  p ← number_at r 1
  s ← number_at r 2
  v ← number_at r 3
  Some (Write p s (record { first = v; second = 0 }))

-- `write,P,S,V,W`
abbrev pub write_two : Record → Option (Command Event)
write_two r = do
  p ← number_at r 1
  s ← number_at r 2
  v ← number_at r 3
  w ← number_at r 4
  Some (Write p s (record { first = v; second = w }))

-- `publish,P,LO,HI`
abbrev pub publish : Record → Option (Command Event)
publish r = do
  p ← number_at r 1
  lo ← number_at r 2
  hi ← number_at r 3
  Some (Publish p lo hi)

-- `poll,NAME,MAX`
abbrev pub poll : List Field → Record → Option (Command Event)
poll names r = do
  max ← number_at r 2
  Some (Poll (handler_of names (field r 1)) (min max greatest_batch))

-- `complete,NAME,UPTO`
abbrev pub complete : List Field → Record → Option (Command Event)
complete names r = do
  upto ← number_at r 2
  Some (Complete (handler_of names (field r 1)) upto)

-- `retire,NAME`
abbrev pub retire : List Field → Record → Option (Command Event)
retire names r = Some (Retire (handler_of names (field r 1)))

-- the command of a record, where the handlers have these names
abbrev pub command_of : List Field → Record → Option (Command Event)
command_of names r =
    if is_record (codes "claim") 3 r then claim r
    else if is_record (codes "write") 4 r then write_one r
    else if is_record (codes "write") 5 r then write_two r
    else if is_record (codes "publish") 4 r then publish r
    else if is_record (codes "poll") 3 r then poll names r
    else if is_record (codes "complete") 3 r then complete names r
    else if is_record (codes "halt") 1 r then Some Halt
    else if is_record (codes "retire") 2 r then retire names r
    else None
