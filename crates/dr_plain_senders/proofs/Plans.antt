-- The words of a ring are few enough to be counted.
use Rattle.std.proofs.Common.{ℕ, ◌%◌, ◌<◌, ◌≤◌, arith}
use Rattle.std.proofs.Math.Nat.{mod-lt}
use Rattle.dr_seq.proofs.Sizes.{size_positive, size_at_most}
use Rattle.dr_plain_senders.specs.Meaning.Shape.{Shape, IsShape}
use Rattle.dr_plain_senders.specs.Calls.Plans.{IsPlan}
use Rattle.dr_plain_senders.specs.Meaning.Words.{words_of}

pub slot_inside : {T : Type 0} (k : Shape T) (s : ℕ) → IsPlan k → s % k.size < k.size
slot_inside k s is = mod-lt s (size_positive k.size is.size)

pub few_slots : {T : Type 0} (k : Shape T) → IsPlan k → k.size ≤ 65536
few_slots k is = size_at_most k.size is.size

pub few_words : {T : Type 0} (k : Shape T) → IsPlan k → words_of k ≤ 300000
few_words k is = let few = is.few in let small : k.size ≤ 65536 = few_slots k is in omega arith

pub is_shape : {T : Type 0} (k : Shape T) → IsPlan k → IsShape k
is_shape k is = record { graph = is.graph; some_slot = size_positive k.size is.size; small = let l = is.limit in omega arith }
