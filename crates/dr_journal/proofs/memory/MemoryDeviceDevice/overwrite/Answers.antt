use Rattle.std.proofs.lemmas.Grind.{common_steps}
use Rattle.std.proofs.Common.{arith, ◌≡◌, ◌+◌, ◌≤◌, ℕ, List, length, refl, sym, ◌∙◌, subst}
use Rattle.dr_journal.specs.Meaning.Disk.{Mixed, written}
use Rattle.dr_journal.proofs.Mixes.{mix_old, mix_new, length-written}
use Rattle.dr_journal.proofs.Kept.{elapses_to}
use Rattle.dr_journal.proofs.memory.MemoryDeviceDevice.overwrite.Goals as goal

pub returns-clause-time : goal.returns-clause-time
returns-clause-time c =
    let past = c.in_ok-replace.ensures.past in
    elapses_to c.args.self.now.past.items c.replace.new.past.items past.0 c.args.self.now.bytes.items c.replace.new.bytes.items past.1 past.2

left_old : (file bytes : List ℕ) (n : ℕ) → n + length bytes ≤ length file → (c : List ℕ) → c ≡ file → (d : List ℕ) × (d ≡ file) × Mixed n bytes d c
left_old file bytes n le c is = (file, refl, subst (λ f. Mixed n bytes file f) (sym is) (mix_old file (written n bytes file) (length-written n bytes file le)))

left_new : (file bytes new : List ℕ) (n : ℕ) → n + length bytes ≤ length file → new ≡ written n bytes file → (c : List ℕ) → c ≡ new → (d : List ℕ) × (d ≡ file) × Mixed n bytes d c
left_new file bytes new n le done c is = (file, refl, subst (λ f. Mixed n bytes file f) (sym (is ∙ done)) (mix_new file (written n bytes file) (length-written n bytes file le)))

pub returns-in_err-next-clause-crash : goal.returns-in_err-next-clause-crash
returns-in_err-next-clause-crash c = left_old c.args.self.now.bytes.items c.args.bytes.now.items c.args.at c.requires.within

pub returns-in_err-extend_from_slice-clause-crash : goal.returns-in_err-extend_from_slice-clause-crash
returns-in_err-extend_from_slice-clause-crash c = left_old c.args.self.now.bytes.items c.args.bytes.now.items c.args.at c.requires.within

pub returns-in_err-extend_from_slice-2-clause-crash : goal.returns-in_err-extend_from_slice-2-clause-crash
returns-in_err-extend_from_slice-2-clause-crash c = left_old c.args.self.now.bytes.items c.args.bytes.now.items c.args.at c.requires.within

pub returns-in_err-replace-clause-crash : goal.returns-in_err-replace-clause-crash
returns-in_err-replace-clause-crash c = λ f is. left_old c.args.self.now.bytes.items c.args.bytes.now.items c.args.at c.requires.within f (is ∙ c.in_err-replace.ensures.err)

pub returns-clause-crash : goal.returns-clause-crash
returns-clause-crash c =
    let done : c.replace.new.bytes.items ≡ written c.args.at c.args.bytes.now.items c.args.self.now.bytes.items = grind (arith, common_steps) in
    left_new c.args.self.now.bytes.items c.args.bytes.now.items c.replace.new.bytes.items c.args.at c.requires.within done
