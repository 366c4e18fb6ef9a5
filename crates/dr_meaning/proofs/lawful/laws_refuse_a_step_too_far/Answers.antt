use Rattle.std.proofs.Common.{arith, ℕ, ◌≡◌, ◌≤◌, ◌∷◌, ◌++◌, [], refl, false, true, Some, ap, unwrap_or}
use Rattle.dr_meaning.specs.Meaning.Transcript.{Transcript}
use Rattle.dr_meaning.specs.Meaning.Laws.{IsComplete, ReceivedInOrder, AfterUpstreams}
use Rattle.dr_meaning.specs.Meaning.TooFar.{pair, claim_of, receipt_of, completion_of, retirement_of, halt, drain, written, written_again, published, taken, completed, taken_by_both}
use Rattle.dr_meaning.specs.Meaning.TooFar.{claim_up_to, join, two_published, first_receipt, second_receipt, completed_beside, taken_beside, completed_by_both, first_taken, drain_with_room}
use Rattle.dr_meaning.proofs.lawful.laws_refuse_a_step_too_far.Goals as goal

pub returns-clause-other_event : goal.returns-clause-other_event
unfolding Rattle.dr_meaning.specs.Meaning.Machine.least_outside
returns-clause-other_event c = record {
  so_far = (_, (refl, refl, (refl, refl, (refl, refl, refl))));
  unlawful = λ laws.
      (let order : ReceivedInOrder (published ++ receipt_of 0 6 ∷ []) 0 = laws.received_in_order (published ++ receipt_of 0 6 ∷ []) [] refl 0 (omega arith) in
      let same : Some 6 ≡ Some 5 = order.events 0 (omega arith) in
      let numbers : 6 ≡ 5 = ap (λ o. unwrap_or o 5) same in
      omega arith);
}

pub returns-clause-unpublished : goal.returns-clause-unpublished
unfolding Rattle.dr_meaning.specs.Meaning.Machine.least_outside
returns-clause-unpublished c = record {
  so_far = (_, (refl, refl, (refl, refl, refl)));
  unlawful = λ laws.
      (let order : ReceivedInOrder (written ++ receipt_of 0 5 ∷ []) 0 = laws.received_in_order (written ++ receipt_of 0 5 ∷ []) [] refl 0 (omega arith) in
      let front : 1 ≤ 0 = order.published in
      omega arith);
}

pub returns-clause-taken_back : goal.returns-clause-taken_back
unfolding Rattle.dr_meaning.specs.Meaning.Machine.least_outside
returns-clause-taken_back c = record {
  so_far = (_, (refl, refl, (refl, refl, (refl, refl, (refl, refl, (refl, refl, refl))))));
  unlawful = λ laws.
      (let order : AfterUpstreams pair (completed ++ completion_of 0 0 ∷ []) 0 = laws.after_upstreams (completed ++ completion_of 0 0 ∷ []) [] refl 0 (omega arith) in
      let rises : 1 ≤ 0 = order.rises completed (completion_of 0 0 ∷ []) refl in
      omega arith);
}

pub returns-clause-untaken : goal.returns-clause-untaken
unfolding Rattle.dr_meaning.specs.Meaning.Machine.least_outside
returns-clause-untaken c = record {
  so_far = (_, (refl, refl, (refl, refl, (refl, refl, refl))));
  unlawful = λ laws.
      (let order : AfterUpstreams pair (published ++ completion_of 0 1 ∷ []) 0 = laws.after_upstreams (published ++ completion_of 0 1 ∷ []) [] refl 0 (omega arith) in
      let took : 1 ≤ 0 = order.took in
      omega arith);
}

pub returns-clause-before_upstream : goal.returns-clause-before_upstream
unfolding Rattle.dr_meaning.specs.Meaning.Machine.least_outside
returns-clause-before_upstream c = record {
  so_far = (_, (refl, refl, (refl, refl, (refl, refl, (refl, refl, refl)))));
  unlawful = λ laws.
      (let order : AfterUpstreams pair (taken ++ receipt_of 1 5 ∷ []) 1 = laws.after_upstreams (taken ++ receipt_of 1 5 ∷ []) [] refl 1 (omega arith) in
      let after : 1 ≤ 0 = order.after 0 (0, omega arith, refl) in
      omega arith);
}

pub returns-clause-no_room : goal.returns-clause-no_room
unfolding Rattle.dr_meaning.specs.Meaning.Machine.least_outside
returns-clause-no_room c = record {
  so_far = (_, (refl, refl, (refl, refl, (refl, refl, (refl, refl, (refl, refl, (refl, refl, refl)))))));
  unlawful = λ laws.
      (let room : 2 ≤ 1 = laws.has_room taken_by_both [] (claim_of 1) refl 1 1 1 refl (0, omega arith, refl) in
      omega arith);
}

pub returns-clause-no_room_after_retirement : goal.returns-clause-no_room_after_retirement
unfolding Rattle.dr_meaning.specs.Meaning.Machine.least_outside
returns-clause-no_room_after_retirement c = record {
  so_far = (_, (refl, refl, (refl, refl, (refl, refl, (refl, refl, refl)))));
  unlawful = λ laws.
      (let room : 2 ≤ 1 = laws.has_room (published ++ retirement_of 1 ∷ []) [] (claim_of 1) refl 1 1 0 refl (0, omega arith, refl) in
      omega arith);
}

pub returns-clause-claimed_twice : goal.returns-clause-claimed_twice
returns-clause-claimed_twice c = record {
  so_far = (_, (refl, refl, refl));
  unlawful = λ laws.
      (let next : 0 ≡ 1 = laws.gives_next (claim_of 0 ∷ []) [] (claim_of 0) refl 0 0 refl in
      omega arith);
}

pub returns-clause-claimed_late : goal.returns-clause-claimed_late
returns-clause-claimed_late c = record {
  so_far = (_, (refl, refl, refl));
  unlawful = λ laws. laws.no_claim_after_halt (halt ∷ []) [] (claim_of 0) refl 0 0 refl refl;
}

pub returns-clause-drained_before_halt : goal.returns-clause-drained_before_halt
returns-clause-drained_before_halt c = record {
  so_far = (_, refl);
  unlawful = λ laws. (let complete : IsComplete [] 0 = laws.drained_is_complete [] [] drain refl 0 1 refl refl in let halted : false ≡ true = complete.halted in cc);
}

pub returns-clause-drained_early : goal.returns-clause-drained_early
unfolding Rattle.dr_meaning.specs.Meaning.Machine.least_outside
returns-clause-drained_early c = record {
  so_far = (_, (refl, refl, (refl, refl, (refl, refl, (refl, refl, refl)))));
  unlawful = λ laws.
      (let complete : IsComplete (published ++ halt ∷ []) 0 = laws.drained_is_complete (published ++ halt ∷ []) [] drain refl 0 1 refl refl in
      let all : 0 ≡ 1 = complete.taken in
      omega arith);
}

pub returns-clause-received_again : goal.returns-clause-received_again
unfolding Rattle.dr_meaning.specs.Meaning.Machine.least_outside
returns-clause-received_again c = record {
  so_far = (_, (refl, refl, (refl, refl, (refl, refl, (refl, refl, (refl, refl, refl))))));
  unlawful = λ laws.
      (let all : Transcript ℕ = (two_published ++ first_receipt 0 5 ∷ []) ++ second_receipt 0 5 ∷ [] in
      let order : ReceivedInOrder all 0 = laws.received_in_order all [] refl 0 (omega arith) in
      let same : Some 5 ≡ Some 6 = order.events 1 (omega arith) in
      let numbers : 5 ≡ 6 = ap (λ o. unwrap_or o 5) same in
      omega arith);
}

pub returns-clause-out_of_order : goal.returns-clause-out_of_order
unfolding Rattle.dr_meaning.specs.Meaning.Machine.least_outside
returns-clause-out_of_order c = record {
  so_far = (_, (refl, refl, (refl, refl, (refl, refl, (refl, refl, refl)))));
  unlawful = λ laws.
      (let all : Transcript ℕ = two_published ++ first_receipt 1 6 ∷ [] in
      let order : ReceivedInOrder all 1 = laws.received_in_order all [] refl 1 (omega arith) in
      let same : Some 6 ≡ Some 5 = order.events 0 (omega arith) in
      let numbers : 6 ≡ 5 = ap (λ o. unwrap_or o 5) same in
      omega arith);
}

pub returns-clause-before_first_upstream : goal.returns-clause-before_first_upstream
unfolding Rattle.dr_meaning.specs.Meaning.Machine.least_outside
returns-clause-before_first_upstream c = record {
  so_far = (_, (refl, refl, (refl, refl, (refl, refl, (refl, refl, (refl, refl, (refl, refl, refl)))))));
  unlawful = λ laws.
      (let all : Transcript ℕ = completed_beside 1 ++ first_receipt 2 5 ∷ [] in
      let order : AfterUpstreams join all 2 = laws.after_upstreams all [] refl 2 (omega arith) in
      let after : 1 ≤ 0 = order.after 0 (0, omega arith, refl) in
      omega arith);
}

pub returns-clause-before_second_upstream : goal.returns-clause-before_second_upstream
unfolding Rattle.dr_meaning.specs.Meaning.Machine.least_outside
returns-clause-before_second_upstream c = record {
  so_far = (_, (refl, refl, (refl, refl, (refl, refl, (refl, refl, (refl, refl, (refl, refl, refl)))))));
  unlawful = λ laws.
      (let all : Transcript ℕ = completed_beside 0 ++ first_receipt 2 5 ∷ [] in
      let order : AfterUpstreams join all 2 = laws.after_upstreams all [] refl 2 (omega arith) in
      let after : 1 ≤ 0 = order.after 1 (1, omega arith, refl) in
      omega arith);
}

pub returns-clause-no_room_for_first_final : goal.returns-clause-no_room_for_first_final
unfolding Rattle.dr_meaning.specs.Meaning.Machine.least_outside
returns-clause-no_room_for_first_final c = record {
  so_far = (_, (refl, refl, (refl, refl, (refl, refl, (refl, refl, (refl, refl, (refl, refl, (refl, refl, refl))))))));
  unlawful = λ laws.
      (let room : 3 ≤ 2 = laws.has_room (completed_beside 1 ++ retirement_of 2 ∷ []) [] (claim_of 2) refl 2 2 0 refl (0, omega arith, refl) in
      omega arith);
}

pub returns-clause-no_room_for_second_final : goal.returns-clause-no_room_for_second_final
unfolding Rattle.dr_meaning.specs.Meaning.Machine.least_outside
returns-clause-no_room_for_second_final c = record {
  so_far = (_, (refl, refl, (refl, refl, (refl, refl, (refl, refl, (refl, refl, (refl, refl, (refl, refl, refl))))))));
  unlawful = λ laws.
      (let room : 3 ≤ 2 = laws.has_room (completed_beside 0 ++ retirement_of 2 ∷ []) [] (claim_of 2) refl 2 2 1 refl (1, omega arith, refl) in
      omega arith);
}

pub returns-clause-taken_back_later : goal.returns-clause-taken_back_later
unfolding Rattle.dr_meaning.specs.Meaning.Machine.least_outside
returns-clause-taken_back_later c = record {
  so_far = (_, (refl, refl, (refl, refl, (refl, refl, (refl, refl, (refl, refl, (refl, refl, (refl, refl, (refl, refl, (refl, refl, (refl, refl, (refl, refl, (refl, refl, refl)))))))))))));
  unlawful = λ laws.
      (let all : Transcript ℕ = completed_by_both ++ completion_of 0 1 ∷ [] in
      let order : AfterUpstreams join all 0 = laws.after_upstreams all [] refl 0 (omega arith) in
      let rises : 2 ≤ 1 = order.rises completed_by_both (completion_of 0 1 ∷ []) refl in
      omega arith);
}

pub returns-clause-untaken_later : goal.returns-clause-untaken_later
unfolding Rattle.dr_meaning.specs.Meaning.Machine.least_outside
returns-clause-untaken_later c = record {
  so_far = (_, (refl, refl, (refl, refl, (refl, refl, (refl, refl, (refl, refl, (refl, refl, refl)))))));
  unlawful = λ laws.
      (let all : Transcript ℕ = completed_beside 0 ++ completion_of 0 2 ∷ [] in
      let order : AfterUpstreams join all 0 = laws.after_upstreams all [] refl 0 (omega arith) in
      let took : 2 ≤ 1 = order.took in
      omega arith);
}

pub returns-clause-before_upstream_later : goal.returns-clause-before_upstream_later
unfolding Rattle.dr_meaning.specs.Meaning.Machine.least_outside
returns-clause-before_upstream_later c = record {
  so_far = (_, (refl, refl, (refl, refl, (refl, refl, (refl, refl, (refl, refl, (refl, refl, (refl, refl, (refl, refl, (refl, refl, (refl, refl, (refl, refl, refl))))))))))));
  unlawful = λ laws.
      (let all : Transcript ℕ = (taken_beside ++ receipt_of 2 5 ∷ []) ++ second_receipt 2 6 ∷ [] in
      let order : AfterUpstreams join all 2 = laws.after_upstreams all [] refl 2 (omega arith) in
      let after : 2 ≤ 1 = order.after 0 (0, omega arith, refl) in
      omega arith);
}

pub returns-clause-no_room_for_the_last : goal.returns-clause-no_room_for_the_last
unfolding Rattle.dr_meaning.specs.Meaning.Machine.least_outside
returns-clause-no_room_for_the_last c = record {
  so_far = (_, refl);
  unlawful = λ laws.
      (let room : 2 ≤ 1 = laws.has_room [] [] (claim_up_to 0 1) refl 0 1 1 refl (0, omega arith, refl) in
      omega arith);
}

pub returns-clause-passed_over : goal.returns-clause-passed_over
unfolding Rattle.dr_meaning.specs.Meaning.Machine.least_outside
returns-clause-passed_over c = record {
  so_far = (_, refl);
  unlawful = λ laws.
      (let next : 1 ≡ 0 = laws.gives_next [] [] (claim_of 1) refl 1 1 refl in
      omega arith);
}

pub returns-clause-drained_over_a_claim : goal.returns-clause-drained_over_a_claim
unfolding Rattle.dr_meaning.specs.Meaning.Machine.least_outside
returns-clause-drained_over_a_claim c = record {
  so_far = (_, (refl, refl, (refl, refl, (refl, refl, refl))));
  unlawful = λ laws.
      (let complete : IsComplete (written ++ halt ∷ []) 0 = laws.drained_is_complete (written ++ halt ∷ []) [] drain refl 0 1 refl refl in
      let all : 0 ≡ 1 = complete.taken in
      omega arith);
}

pub returns-clause-no_room_a_round_later : goal.returns-clause-no_room_a_round_later
unfolding Rattle.dr_meaning.specs.Meaning.Machine.least_outside
returns-clause-no_room_a_round_later c = record {
  so_far = (_, (refl, refl, (refl, refl, (refl, refl, (refl, refl, (refl, refl, (refl, refl, (refl, refl, (refl, refl, refl)))))))));
  unlawful = λ laws.
      (let room : 3 ≤ 2 = laws.has_room (taken_by_both ++ completion_of 1 1 ∷ claim_of 1 ∷ []) [] (claim_of 2) refl 2 2 1 refl (0, omega arith, refl) in
      omega arith);
}

pub returns-clause-unpublished_later : goal.returns-clause-unpublished_later
unfolding Rattle.dr_meaning.specs.Meaning.Machine.least_outside
returns-clause-unpublished_later c = record {
  so_far = (_, (refl, refl, (refl, refl, (refl, refl, (refl, refl, (refl, refl, refl))))));
  unlawful = λ laws.
      (let all : Transcript ℕ = first_taken ++ second_receipt 0 6 ∷ [] in
      let order : ReceivedInOrder all 0 = laws.received_in_order all [] refl 0 (omega arith) in
      let front : 2 ≤ 1 = order.published in
      omega arith);
}

pub returns-clause-claimed_twice_later : goal.returns-clause-claimed_twice_later
returns-clause-claimed_twice_later c = record {
  so_far = (_, (refl, refl, refl));
  unlawful = λ laws.
      (let next : 1 ≡ 2 = laws.gives_next (claim_up_to 0 1 ∷ []) [] (claim_of 1) refl 1 1 refl in
      omega arith);
}

pub returns-clause-claimed_twice_in_part : goal.returns-clause-claimed_twice_in_part
returns-clause-claimed_twice_in_part c = record {
  so_far = (_, (refl, refl, refl));
  unlawful = λ laws.
      (let next : 0 ≡ 1 = laws.gives_next (claim_of 0 ∷ []) [] (claim_up_to 0 1) refl 0 1 refl in
      omega arith);
}

pub returns-clause-claimed_late_after_a_claim : goal.returns-clause-claimed_late_after_a_claim
returns-clause-claimed_late_after_a_claim c = record {
  so_far = (_, (refl, refl, (refl, refl, refl)));
  unlawful = λ laws.
      laws.no_claim_after_halt (claim_of 0 ∷ halt ∷ []) [] (claim_of 1) refl 1 1 refl refl;
}

pub returns-clause-drained_before_halt_later : goal.returns-clause-drained_before_halt_later
unfolding Rattle.dr_meaning.specs.Meaning.Machine.least_outside
returns-clause-drained_before_halt_later c = record {
  so_far = (_, (refl, refl, (refl, refl, (refl, refl, (refl, refl, refl)))));
  unlawful = λ laws.
      (let complete : IsComplete taken 0 = laws.drained_is_complete taken [] drain refl 0 1 refl refl in
      let halted : false ≡ true = complete.halted in
      cc);
}

pub returns-clause-drained_early_later : goal.returns-clause-drained_early_later
unfolding Rattle.dr_meaning.specs.Meaning.Machine.least_outside
returns-clause-drained_early_later c = record {
  so_far = (_, (refl, refl, (refl, refl, (refl, refl, (refl, refl, (refl, refl, (refl, refl, refl)))))));
  unlawful = λ laws.
      (let complete : IsComplete (two_published ++ first_receipt 0 5 ∷ halt ∷ []) 0 = laws.drained_is_complete (two_published ++ first_receipt 0 5 ∷ halt ∷ []) [] drain refl 0 1 refl refl in
      let all : 1 ≡ 2 = complete.taken in
      omega arith);
}

pub returns-clause-event_written_over : goal.returns-clause-event_written_over
unfolding Rattle.dr_meaning.specs.Meaning.Machine.least_outside
returns-clause-event_written_over c = record {
  so_far = (_, (refl, refl, (refl, refl, (refl, refl, (refl, refl, refl)))));
  unlawful = λ laws.
      (let order : ReceivedInOrder (written_again ++ receipt_of 0 6 ∷ []) 0 = laws.received_in_order (written_again ++ receipt_of 0 6 ∷ []) [] refl 0 (omega arith) in
      let same : Some 6 ≡ Some 5 = order.events 0 (omega arith) in
      let numbers : 6 ≡ 5 = ap (λ o. unwrap_or o 5) same in
      omega arith);
}

pub returns-clause-other_event_after_an_upstream : goal.returns-clause-other_event_after_an_upstream
unfolding Rattle.dr_meaning.specs.Meaning.Machine.least_outside
returns-clause-other_event_after_an_upstream c = record {
  so_far = (_, (refl, refl, (refl, refl, (refl, refl, (refl, refl, (refl, refl, refl))))));
  unlawful = λ laws.
      (let all : Transcript ℕ = completed ++ receipt_of 1 6 ∷ [] in
      let order : ReceivedInOrder all 1 = laws.received_in_order all [] refl 1 (omega arith) in
      let same : Some 6 ≡ Some 5 = order.events 0 (omega arith) in
      let numbers : 6 ≡ 5 = ap (λ o. unwrap_or o 5) same in
      omega arith);
}

pub returns-clause-out_of_order_after_both_upstreams : goal.returns-clause-out_of_order_after_both_upstreams
unfolding Rattle.dr_meaning.specs.Meaning.Machine.least_outside
returns-clause-out_of_order_after_both_upstreams c = record {
  so_far = (_, (refl, refl, (refl, refl, (refl, refl, (refl, refl, (refl, refl, (refl, refl, (refl, refl, (refl, refl, (refl, refl, (refl, refl, (refl, refl, (refl, refl, refl)))))))))))));
  unlawful = λ laws.
      (let all : Transcript ℕ = completed_by_both ++ first_receipt 2 6 ∷ [] in
      let order : ReceivedInOrder all 2 = laws.received_in_order all [] refl 2 (omega arith) in
      let same : Some 6 ≡ Some 5 = order.events 0 (omega arith) in
      let numbers : 6 ≡ 5 = ap (λ o. unwrap_or o 5) same in
      omega arith);
}

pub returns-clause-received_again_after_both_upstreams : goal.returns-clause-received_again_after_both_upstreams
unfolding Rattle.dr_meaning.specs.Meaning.Machine.least_outside
returns-clause-received_again_after_both_upstreams c = record {
  so_far = (_, (refl, refl, (refl, refl, (refl, refl, (refl, refl, (refl, refl, (refl, refl, (refl, refl, (refl, refl, (refl, refl, (refl, refl, (refl, refl, (refl, refl, (refl, refl, refl))))))))))))));
  unlawful = λ laws.
      (let all : Transcript ℕ = (completed_by_both ++ first_receipt 2 5 ∷ []) ++ second_receipt 2 5 ∷ [] in
      let order : ReceivedInOrder all 2 = laws.received_in_order all [] refl 2 (omega arith) in
      let same : Some 5 ≡ Some 6 = order.events 1 (omega arith) in
      let numbers : 5 ≡ 6 = ap (λ o. unwrap_or o 5) same in
      omega arith);
}

pub returns-clause-drained_before_halt_with_room : goal.returns-clause-drained_before_halt_with_room
unfolding Rattle.dr_meaning.specs.Meaning.Machine.least_outside
returns-clause-drained_before_halt_with_room c = record {
  so_far = (_, (refl, refl, (refl, refl, (refl, refl, (refl, refl, refl)))));
  unlawful = λ laws.
      (let complete : IsComplete (taken) 0 = laws.drained_is_complete (taken) [] (drain_with_room 0) refl 0 2 refl refl in
      let halted : false ≡ true = complete.halted in
      cc);
}

pub returns-clause-drained_early_with_room : goal.returns-clause-drained_early_with_room
unfolding Rattle.dr_meaning.specs.Meaning.Machine.least_outside
returns-clause-drained_early_with_room c = record {
  so_far = (_, (refl, refl, (refl, refl, (refl, refl, (refl, refl, (refl, refl, (refl, refl, refl)))))));
  unlawful = λ laws.
      (let complete : IsComplete (two_published ++ first_receipt 0 5 ∷ halt ∷ []) 0 = laws.drained_is_complete (two_published ++ first_receipt 0 5 ∷ halt ∷ []) [] (drain_with_room 0) refl 0 2 refl refl in
      let all : 1 ≡ 2 = complete.taken in
      omega arith);
}

pub returns-clause-drained_over_a_claim_with_room : goal.returns-clause-drained_over_a_claim_with_room
unfolding Rattle.dr_meaning.specs.Meaning.Machine.least_outside
returns-clause-drained_over_a_claim_with_room c = record {
  so_far = (_, (refl, refl, (refl, refl, (refl, refl, refl))));
  unlawful = λ laws.
      (let complete : IsComplete (written ++ halt ∷ []) 0 = laws.drained_is_complete (written ++ halt ∷ []) [] (drain_with_room 0) refl 0 2 refl refl in
      let all : 0 ≡ 1 = complete.taken in
      omega arith);
}
