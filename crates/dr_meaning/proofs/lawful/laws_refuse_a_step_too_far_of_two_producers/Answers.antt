use Rattle.std.proofs.Common.{arith, ℕ, ◌≡◌, ◌≤◌, ◌∷◌, ◌++◌, [], refl, false, true, Some, ap, unwrap_or}
use Rattle.dr_meaning.specs.Meaning.Transcript.{Transcript}
use Rattle.dr_meaning.specs.Meaning.Laws.{IsComplete, ReceivedInOrder, AfterUpstreams}
use Rattle.dr_meaning.specs.Meaning.TooFar.{receipt_of, completion_of, halt, first_receipt, second_receipt, shared, claim_by, drain_of, receipt_of_both}
use Rattle.dr_meaning.specs.Meaning.TooFar.{each_claimed, first_published, second_published, each_published, each_completed, third_completed, drain_with_room}
use Rattle.dr_meaning.proofs.lawful.laws_refuse_a_step_too_far_of_two_producers.Goals as goal

pub returns-clause-received_again : goal.returns-clause-received_again
unfolding Rattle.dr_meaning.specs.Meaning.Machine.least_outside
returns-clause-received_again c = record {
  so_far = (_, (refl, refl, (refl, refl, (refl, refl, (refl, refl, (refl, refl, (refl, refl, (refl, refl, refl))))))));
  unlawful = λ laws.
      (let all : Transcript ℕ = (each_published ++ first_receipt 1 5 ∷ []) ++ second_receipt 1 5 ∷ [] in
      let order : ReceivedInOrder all 1 = laws.received_in_order all [] refl 1 (omega arith) in
      let same : Some 5 ≡ Some 6 = order.events 1 (omega arith) in
      let numbers : 5 ≡ 6 = ap (λ o. unwrap_or o 5) same in
      omega arith);
}

pub returns-clause-unpublished : goal.returns-clause-unpublished
unfolding Rattle.dr_meaning.specs.Meaning.Machine.least_outside
returns-clause-unpublished c = record {
  so_far = (_, (refl, refl, (refl, refl, (refl, refl, (refl, refl, (refl, refl, refl))))));
  unlawful = λ laws.
      (let all : Transcript ℕ = second_published ++ receipt_of 1 5 ∷ [] in
      let order : ReceivedInOrder all 1 = laws.received_in_order all [] refl 1 (omega arith) in
      let front : 1 ≤ 0 = order.published in
      omega arith);
}

pub returns-clause-taken_back : goal.returns-clause-taken_back
unfolding Rattle.dr_meaning.specs.Meaning.Machine.least_outside
returns-clause-taken_back c = record {
  so_far = (_, (refl, refl, (refl, refl, (refl, refl, (refl, refl, (refl, refl, (refl, refl, (refl, refl, (refl, refl, (refl, refl, (refl, refl, (refl, refl, (refl, refl, refl)))))))))))));
  unlawful = λ laws.
      (let all : Transcript ℕ = third_completed 2 ++ completion_of 2 1 ∷ [] in
      let order : AfterUpstreams shared all 2 = laws.after_upstreams all [] refl 2 (omega arith) in
      let rises : 2 ≤ 1 = order.rises (third_completed 2) (completion_of 2 1 ∷ []) refl in
      omega arith);
}

pub returns-clause-untaken : goal.returns-clause-untaken
unfolding Rattle.dr_meaning.specs.Meaning.Machine.least_outside
returns-clause-untaken c = record {
  so_far = (_, (refl, refl, (refl, refl, (refl, refl, (refl, refl, (refl, refl, (refl, refl, (refl, refl, (refl, refl, (refl, refl, (refl, refl, (refl, refl, refl))))))))))));
  unlawful = λ laws.
      (let all : Transcript ℕ = (each_completed 2 ++ first_receipt 2 5 ∷ []) ++ completion_of 2 2 ∷ [] in
      let order : AfterUpstreams shared all 2 = laws.after_upstreams all [] refl 2 (omega arith) in
      let took : 2 ≤ 1 = order.took in
      omega arith);
}

pub returns-clause-before_upstream : goal.returns-clause-before_upstream
unfolding Rattle.dr_meaning.specs.Meaning.Machine.least_outside
returns-clause-before_upstream c = record {
  so_far = (_, (refl, refl, (refl, refl, (refl, refl, (refl, refl, (refl, refl, (refl, refl, (refl, refl, (refl, refl, (refl, refl, (refl, refl, (refl, refl, refl))))))))))));
  unlawful = λ laws.
      (let all : Transcript ℕ = (each_completed 1 ++ receipt_of 2 5 ∷ []) ++ second_receipt 2 6 ∷ [] in
      let order : AfterUpstreams shared all 2 = laws.after_upstreams all [] refl 2 (omega arith) in
      let after : 2 ≤ 1 = order.after 1 (1, omega arith, refl) in
      omega arith);
}

pub returns-clause-no_room : goal.returns-clause-no_room
returns-clause-no_room c = record {
  so_far = (_, (refl, refl, (refl, refl, refl)));
  unlawful = λ laws.
      (let room : 3 ≤ 2 = laws.has_room each_claimed [] (claim_by 1 2 2) refl 2 2 2 refl (0, omega arith, refl) in
      omega arith);
}

pub returns-clause-no_room_for_the_last : goal.returns-clause-no_room_for_the_last
unfolding Rattle.dr_meaning.specs.Meaning.Machine.least_outside
returns-clause-no_room_for_the_last c = record {
  so_far = (_, (refl, refl, (refl, refl, (refl, refl, (refl, refl, (refl, refl, (refl, refl, (refl, refl, (refl, refl, (refl, refl, (refl, refl, (refl, refl, (refl, refl, refl)))))))))))));
  unlawful = λ laws.
      (let room : 4 ≤ 3 = laws.has_room (third_completed 1) [] (claim_by 1 2 3) refl 2 3 2 refl (0, omega arith, refl) in
      omega arith);
}

pub returns-clause-claimed_twice : goal.returns-clause-claimed_twice
returns-clause-claimed_twice c = record {
  so_far = (_, (refl, refl, (refl, refl, refl)));
  unlawful = λ laws.
      (let next : 1 ≡ 2 = laws.gives_next each_claimed [] (claim_by 0 1 1) refl 1 1 refl in
      omega arith);
}

pub returns-clause-passed_over : goal.returns-clause-passed_over
unfolding Rattle.dr_meaning.specs.Meaning.Machine.least_outside
returns-clause-passed_over c = record {
  so_far = (_, (refl, refl, (refl, refl, (refl, refl, (refl, refl, (refl, refl, (refl, refl, (refl, refl, (refl, refl, (refl, refl, (refl, refl, (refl, refl, (refl, refl, refl)))))))))))));
  unlawful = λ laws.
      (let next : 3 ≡ 2 = laws.gives_next (third_completed 2) [] (claim_by 1 3 3) refl 3 3 refl in
      omega arith);
}

pub returns-clause-claimed_late : goal.returns-clause-claimed_late
unfolding Rattle.dr_meaning.specs.Meaning.Machine.least_outside
returns-clause-claimed_late c = record {
  so_far = (_, (refl, refl, (refl, refl, (refl, refl, (refl, refl, (refl, refl, (refl, refl, (refl, refl, (refl, refl, (refl, refl, (refl, refl, (refl, refl, (refl, refl, (refl, refl, (refl, refl, refl)))))))))))))));
  unlawful = λ laws.
      laws.no_claim_after_halt (third_completed 2 ++ halt ∷ drain_of 2 ∷ []) [] (claim_by 1 2 3) refl 2 3 refl refl;
}

pub returns-clause-drained_before_halt : goal.returns-clause-drained_before_halt
unfolding Rattle.dr_meaning.specs.Meaning.Machine.least_outside
returns-clause-drained_before_halt c = record {
  so_far = (_, (refl, refl, (refl, refl, (refl, refl, (refl, refl, (refl, refl, (refl, refl, (refl, refl, (refl, refl, (refl, refl, (refl, refl, (refl, refl, refl))))))))))));
  unlawful = λ laws.
      (let complete : IsComplete (each_completed 2 ++ receipt_of_both 2 ∷ []) 2 = laws.drained_is_complete (each_completed 2 ++ receipt_of_both 2 ∷ []) [] (drain_of 2) refl 2 1 refl refl in
      let halted : false ≡ true = complete.halted in
      cc);
}

pub returns-clause-drained_early : goal.returns-clause-drained_early
unfolding Rattle.dr_meaning.specs.Meaning.Machine.least_outside
returns-clause-drained_early c = record {
  so_far = (_, (refl, refl, (refl, refl, (refl, refl, (refl, refl, (refl, refl, (refl, refl, (refl, refl, (refl, refl, (refl, refl, (refl, refl, (refl, refl, (refl, refl, refl)))))))))))));
  unlawful = λ laws.
      (let complete : IsComplete (each_completed 2 ++ first_receipt 2 5 ∷ halt ∷ []) 2 = laws.drained_is_complete (each_completed 2 ++ first_receipt 2 5 ∷ halt ∷ []) [] (drain_of 2) refl 2 1 refl refl in
      let all : 1 ≡ 2 = complete.taken in
      omega arith);
}

pub returns-clause-drained_over_a_claim : goal.returns-clause-drained_over_a_claim
unfolding Rattle.dr_meaning.specs.Meaning.Machine.least_outside
returns-clause-drained_over_a_claim c = record {
  so_far = (_, (refl, refl, (refl, refl, (refl, refl, (refl, refl, (refl, refl, (refl, refl, (refl, refl, refl))))))));
  unlawful = λ laws.
      (let complete : IsComplete (first_published ++ halt ∷ []) 1 = laws.drained_is_complete (first_published ++ halt ∷ []) [] (drain_of 1) refl 1 1 refl refl in
      let all : 1 ≡ 2 = complete.taken in
      omega arith);
}

pub returns-clause-out_of_order_after_both_upstreams : goal.returns-clause-out_of_order_after_both_upstreams
unfolding Rattle.dr_meaning.specs.Meaning.Machine.least_outside
returns-clause-out_of_order_after_both_upstreams c = record {
  so_far = (_, (refl, refl, (refl, refl, (refl, refl, (refl, refl, (refl, refl, (refl, refl, (refl, refl, (refl, refl, (refl, refl, (refl, refl, refl)))))))))));
  unlawful = λ laws.
      (let all : Transcript ℕ = (each_completed 2) ++ first_receipt 2 6 ∷ [] in
      let order : ReceivedInOrder all 2 = laws.received_in_order all [] refl 2 (omega arith) in
      let same : Some 6 ≡ Some 5 = order.events 0 (omega arith) in
      let numbers : 6 ≡ 5 = ap (λ o. unwrap_or o 5) same in
      omega arith);
}

pub returns-clause-received_again_after_both_upstreams : goal.returns-clause-received_again_after_both_upstreams
unfolding Rattle.dr_meaning.specs.Meaning.Machine.least_outside
returns-clause-received_again_after_both_upstreams c = record {
  so_far = (_, (refl, refl, (refl, refl, (refl, refl, (refl, refl, (refl, refl, (refl, refl, (refl, refl, (refl, refl, (refl, refl, (refl, refl, (refl, refl, refl))))))))))));
  unlawful = λ laws.
      (let all : Transcript ℕ = (each_completed 2 ++ first_receipt 2 5 ∷ []) ++ second_receipt 2 5 ∷ [] in
      let order : ReceivedInOrder all 2 = laws.received_in_order all [] refl 2 (omega arith) in
      let same : Some 5 ≡ Some 6 = order.events 1 (omega arith) in
      let numbers : 5 ≡ 6 = ap (λ o. unwrap_or o 5) same in
      omega arith);
}

pub returns-clause-drained_early_with_room : goal.returns-clause-drained_early_with_room
unfolding Rattle.dr_meaning.specs.Meaning.Machine.least_outside
returns-clause-drained_early_with_room c = record {
  so_far = (_, (refl, refl, (refl, refl, (refl, refl, (refl, refl, (refl, refl, (refl, refl, (refl, refl, (refl, refl, (refl, refl, (refl, refl, (refl, refl, (refl, refl, refl)))))))))))));
  unlawful = λ laws.
      (let complete : IsComplete (each_completed 2 ++ first_receipt 2 5 ∷ halt ∷ []) 2 = laws.drained_is_complete (each_completed 2 ++ first_receipt 2 5 ∷ halt ∷ []) [] (drain_with_room 2) refl 2 2 refl refl in
      let all : 1 ≡ 2 = complete.taken in
      omega arith);
}
