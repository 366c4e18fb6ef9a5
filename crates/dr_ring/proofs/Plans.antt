-- The words of a ring are few enough to be counted.
use Rattle.std.proofs.Common.{ℕ, ◌%◌, ◌<◌, ◌≤◌, arith}
use Rattle.std.proofs.Math.Nat.{mod-lt}
use Rattle.dr_seq.proofs.Sizes.{size_positive, size_at_most}
use Rattle.dr_ring.specs.Meaning.Shape.{Shape}
use Rattle.dr_ring.specs.Calls.Plans.{IsPlan}
use Rattle.dr_ring.specs.Meaning.Words.{words_of}

pub slot_inside : (k : Shape) (s : ℕ) → IsPlan k → s % k.size < k.size
slot_inside k s is = mod-lt s (size_positive k.size is.size)

pub few_words : (k : Shape) → IsPlan k → words_of k ≤ 131360
few_words k is = let few = is.few in let small : k.size ≤ 65536 = size_at_most k.size is.size in omega arith
