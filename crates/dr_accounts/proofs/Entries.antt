-- The lines of the accounts, an entry at a time.
use Rattle.std.proofs.Common.{◌≡◌, ℕ, List, ◌∷◌, ◌++◌, sym, ap, ◌∙◌, append_assoc}
use Rattle.dr_accounts.specs.Handlers.{account_lines}
use Rattle.dr_accounts.specs.Report.{account_line}
use Rattle.dr_accounts.specs.declared.business.Account.{Account}

pub next_entry : (whole done now : List ℕ) (number : ℕ) (account : Account) (rest left : List (ℕ × Account)) → whole ≡ done ++ account_lines left
    → left ≡ (number, account) ∷ rest
    → now ≡ done ++ account_line number account.balance account.refused → whole ≡ now ++ account_lines rest
next_entry whole done now number account rest left so_far cut wrote =
    so_far ∙ ap (λ l. done ++ account_lines l) cut ∙ sym (append_assoc done (account_line number account.balance account.refused) (account_lines rest)) ∙ ap (λ l. l ++ account_lines rest) (sym wrote)
