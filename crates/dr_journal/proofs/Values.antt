-- The first record that has no value.
use Rattle.std.proofs.Common.{◌≡◌, ◌<◌, ℕ, suc, List, ◌∷◌, ◌++◌, Option, None, Vec, length, take, drop, map, get_or, sym, ◌∙◌, ap, arith}
use Rattle.std.specs.declared.alloc.Global.{Global}
use Rattle.std.proofs.lemmas.List.{map-append, length-map, length-take}
use Rattle.std.proofs.Math.Seq.{split_at}
use Rattle.dr_journal.specs.Calls.Journals.{bytes_of}
use Rattle.dr_journal.specs.Calls.Records.{AreValues, IsFirstBad}
use Rattle.dr_journal.specs.declared.record.RecordFault.{RecordFault}
use Rattle.dr_journal.specs.declared.record.RecordFault.TheVariants.{NoMemory, BadRecord}

abbrev pub place_of : RecordFault → ℕ
place_of NoMemory = 0
place_of (BadRecord n) = n

module _ {V E : Type 0} (value_in : List ℕ → Option V) (value : E → V) (records : List (Vec ℕ Global)) (n : ℕ) (item : Vec ℕ Global) (within : n < length records) (is : item ≡ get_or records n item) where
  pub first_bad : (events : List E) → AreValues value_in (bytes_of (take n records)) (map value events) → value_in item.items ≡ None → IsFirstBad value_in (bytes_of records) n
  first_bad events so_far none = record {
    before = bytes_of (take n records);
    bytes = item.items;
    after = bytes_of (drop (suc n) records);
    parts = ap (λ (l : List (Vec ℕ Global)). bytes_of l) (split_at records n item within)
        ∙ map-append (λ (v : Vec ℕ Global). v.items) (take n records) (get_or records n item ∷ drop (suc n) records)
        ∙ ap (λ (v : Vec ℕ Global). bytes_of (take n records) ++ v.items ∷ bytes_of (drop (suc n) records)) (sym is);
    place = length-map (take n records) (λ (v : Vec ℕ Global). v.items) ∙ omega (arith, length-take n records, within);
    good = (map value events, so_far);
    bad = none;
  }
