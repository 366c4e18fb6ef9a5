-- What the proofs by hand of functions have in common that move their parameters into a struct, and do no more.
--     moved, all_go     nothing is had of a parameter once it is moved, and where its exit is silent nothing is said of it
--     made              so how such a walk ends, at what it made
--     ones              a parameter whose type has one machine type is one machine value
use Rattle.std.proofs.Common.{◌≡◌, ℕ, List, [], ◌∷◌, refl, subst}
use lib.Dec.{T}
use seplogic.Ra.Ura.{Ura}
use mir.Syntax.{Ty}
use mir.Val.{Val, has_ty, WT}
use base.Logic.{ent, sep, via}
use types.Logic.{Logic, sem}
use types.Kit.{‵, raw, ◌$◌, ◌∵◌, !, qed, by, move, use0}
use contract.Lifetimes.{Lfts}
use denote.Exit.{Last, left, rest}
use denote.Laws.{Typed, Are, Ises, Lawfuls}
use denote.Param.Mute.{blank, had}
use denote.RattleType.{RattleType, Denots, Valss}
use denote.Signature.{Slot, types_at, type_at}
use denote.Triple.Clauses.{Ended, Clauses, at_exit}
use denote.Triple.End.{Kepts, Fins}
use denote.Triple.Entry.{Res, alive}
use denote.Triple.Walked.{Stays, stay_dropped, AllGo, fits_of, has_of, walk_of}
use Rattle.std.proofs.raw_atomic.Walks.{leaves}

module _ {n : ℕ} where
  abbrev pub moved : (ss : List (Slot n)) (ks : Kepts ss) → Stays ss ks
  moved [] ks = tt
  moved (s ∷ ss) ks = (stay_dropped s ks.0, moved ss ks.1)

  abbrev pub Silent : (ss : List (Slot n)) → Kepts ss → Type 0
  Silent [] ks = Unit {0}
  Silent (s ∷ ss) ks =
      ((κs : Lfts n) (x : (s.row κs).Denot) (f : Last ((s.row κs).exit ks.0) x) → T (blank (left ((s.row κs).exit ks.0) x f))) × Silent ss ks.1

  module _ (κs : Lfts n) where
    abbrev pub rests : (ss : List (Slot n)) (ks : Kepts ss) (a : Denots (types_at ss κs)) → Fins κs ss ks a
    rests [] ks a = tt
    rests (s ∷ ss) ks a = (rest ((s.row κs).exit ks.0) a.0, rests ss ks.1 a.1)

    fit : (ss : List (Slot n)) (ks : Kepts ss) (a : Denots (types_at ss κs)) → fits_of κs ss ks (moved ss ks) a (rests ss ks a)
    fit [] ks a = tt
    fit (s ∷ ss) ks a = (tt, fit ss ks.1 a.1)

module _ {M : Type 1} {𝓤 : Ura M} (𝓛 : Logic 𝓤) where
  pub all_go : {n : ℕ} (ss : List (Slot n)) (ks : Kepts ss) → Silent ss ks → AllGo 𝓛 n ss ks (moved ss ks)
  all_go [] ks q = tt
  all_go (s ∷ ss) ks q = (λ κs x f vs ok. via 𝓤 _ (had 𝓛 (left ((s.row κs).exit ks.0) x f) (q.0 κs x f)) (𝓛.laws.⇛_intro _), all_go ss ks.1 q.1)

  all_blank : {n : ℕ} (κs : Lfts n) (ss : List (Slot n)) (ks : Kepts ss) (a : Denots (types_at ss κs)) (vss : Valss (types_at ss κs))
      → T (blank (has_of κs ss ks (moved ss ks) a (rests κs ss ks a) vss))
  all_blank κs [] ks a vss = tt
  all_blank κs (s ∷ ss) ks a vss = all_blank κs ss ks.1 a.1 vss.1

  pub made : (E : Ended) (c : Clauses 𝓤 E) (y : (walk_of 𝓛 E (moved E.signature.params E.kept) c).Ghost) (v : Val) (r : Res E.signature y.0.0)
      → ent 𝓤 (sep 𝓤 (alive 𝓛 E.signature y.0.0 y.0.1) (sep 𝓤 (sem 𝓛 ((type_at E.signature.result y.0.0).own_val r (v ∷ [])))
      ((c y.0.0 y.0.3).ensures y.1 r (at_exit E y.0.0 y.0.3 (rests y.0.0 E.signature.params E.kept y.0.3)))))
      ((walk_of 𝓛 E (moved E.signature.params E.kept) c).post y v)
  made E c y v r =
      let ss = E.signature.params in let ks = E.kept in let κs = y.0.0 in let a = y.0.3 in let ws = rests κs ss ks a in
      let rest_of = has_of κs ss ks (moved ss ks) a ws y.0.4 in
      let out = type_at E.signature.result κs in
      qed 𝓛 (raw (alive 𝓛 E.signature κs y.0.1) ∷ ‵ (out.own_val r (v ∷ [])) ∷ raw ((c κs a).ensures y.1 r (at_exit E κs a ws)) ∷ []) ∵
      use0 𝓛 (‵ rest_of) (had 𝓛 rest_of (all_blank κs ss ks a y.0.4)) $ move ! (1 ∷ 0 ∷ []) $ by ! (leaves 𝓛 E (moved ss ks) c y v r ws (fit κs ss ks a))

-- the machine type of each
abbrev pub Lone : List RattleType → Type 0
Lone [] = Unit {0}
Lone (R ∷ Rs) = ((τ : Ty) × (R.mir ≡ τ ∷ [])) × Lone Rs

abbrev pub Ones : List RattleType → Type 0
Ones [] = Unit {0}
Ones (R ∷ Rs) = Val × Ones Rs

abbrev pub each : (Rs : List RattleType) → Ones Rs → Valss Rs
each [] vs = tt
each (R ∷ Rs) vs = (vs.0 ∷ [], each Rs vs.1)

abbrev pub Fine : (Rs : List RattleType) → Lone Rs → Ones Rs → Type 0
Fine [] l vs = Unit {0}
Fine (R ∷ Rs) l vs = (T (has_ty l.0.0 vs.0) × WT vs.0) × Fine Rs l.1 vs.1

single : (τ : Ty) (vs : List Val) → Typed (τ ∷ []) vs → (v : Val) × (vs ≡ v ∷ []) × (T (has_ty τ v) × WT v)
single τ [] t = absurd t
single τ (v ∷ []) t = (v, refl, t.0)
single τ (v ∷ w ∷ vs) t = absurd t.1

pub ones : {M : Type 1} {𝓤 : Ura M} (𝓛 : Logic 𝓤) (Rs : List RattleType) (l : Lone Rs) → Lawfuls 𝓛 Rs
    → (a : Denots Rs) (vss : Valss Rs) → Are Rs (Ises Rs) a vss → (vs : Ones Rs) × (vss ≡ each Rs vs) × Fine Rs l vs
ones 𝓛 [] l L a vss are = (tt, refl, tt)
ones 𝓛 (R ∷ Rs) l L a vss are =
    let p = single l.0.0 vss.0 (subst (λ (τs : List Ty). Typed τs vss.0) l.0.1 (L.0.typed a.0 vss.0 are.0)) in
    let ps = ones 𝓛 Rs l.1 L.1 a.1 vss.1 are.1 in ((p.0, ps.0), (λ i. (p.1 i, ps.1 i)), (p.2, ps.2))
