-- A domain at t of 256 parts: at 256 it is itself, at a smaller t it is narrower, so what is admitted at u is admitted at every smaller t; and no
-- t gives a refusal 13 to 15. Assumes nothing.
use mathlib.Core.Path.{◌≡◌, refl, sym, ◌∙◌, ap, ap₂, subst}
use mathlib.Core.List.{List, [], ◌∷◌, map}
use mathlib.Core.Logic.{inl, inr}
use Prim.Native.Nat.{ℕ, suc, ◌≤◌, ◌<◌}
use native.Mathlib.Nat.{le_refl, mul-le-mul}
use native.Mathlib.Omega.{arith}
use lib.IntN.{ℤ, pos, negsuc, nat_abs, ◌*ℤ◌, +ℤ_idr}
use lib.ListN.{length, length-map}
use Rattle.whole.proofs.Floor.{floor_unique}
use Rattle.lists.specs.All.{All}
use Rattle.lists.specs.Each.{Each}
use Rattle.lists.specs.Joined.{Rel}
use Rattle.refusals.specs.Answer.{value}
use Rattle.refusals.proofs.Answers.{no_value}
use Rattle.rules.specs.declared.Matryoshka.{Matryoshka}
use Rattle.rules.specs.Values.{IsMatryoshka}
use Rattle.rules.specs.Matryoshki.{matryoshka, matryoshka_rule}
use Rattle.rules.specs.Numbers.{floor}
use Rattle.rules.specs.Lists.{matryoshki, no_matryoshka}
use Rattle.formulas.specs.Formula.{Formula, WellFormed, Smaller}
use Rattle.formulas.specs.Run.{Walk, finished, stopped, run}
use Rattle.formulas.specs.Readings.{Domain, domain, number_at, domain_brought}
use Rattle.formulas.specs.GivenInRuns.{BelowZero}
use Rattle.formulas.specs.Kinds.{matryoshka_kind, tested}
use Rattle.formulas.proofs.Judging.{Fit}
use Rattle.formulas.proofs.Fitting.{let_in, let_through, DomainFit, domain_fit}
use Rattle.shrinking.specs.Narrow.{Narrows, NoLarger, no_larger, NarrowerDomain}
use Rattle.shrinking.specs.Parts.{all_parts, part, narrowed, narrowed_all, signed_part, domain_at}
use Rattle.shrinking.specs.Explained.{met_in, admission, admissions}
use Rattle.shrinking.proofs.Rule.{narrows_legal}
use Rattle.shrinking.proofs.Run.{run_narrows, narrower_fit}
use Rattle.shrinking.proofs.Falls.{Falls}

pub part_mono : {t u : ℕ} (n : ℕ) → t ≤ u → part t n ≤ part u n
part_mono n l = omega (arith, mul-le-mul (le_refl n) l)

pub part_whole : (n : ℕ) → part all_parts n ≡ n
part_whole n = omega arith

pub part_low : {t : ℕ} (n : ℕ) → t ≤ all_parts → part t n ≤ n
part_low n l = omega (arith, mul-le-mul (le_refl n) l)

parts_narrow : {t u : ℕ} (ms : List Matryoshka) → t ≤ u → Rel Narrows (narrowed_all u ms) (narrowed_all t ms)
parts_narrow [] l = Rel.none
parts_narrow (m ∷ ms) l =
    Rel.one (record { middle_kept = refl; stray_no_larger = part_mono m.stray l; margin_no_larger = part_mono m.margin l }) (parts_narrow ms l)

-- at 256 the domain is itself
pub narrowed_whole : (ms : List Matryoshka) → narrowed_all all_parts ms ≡ ms
narrowed_whole [] = refl
narrowed_whole (m ∷ ms) =
    ap₂ ◌∷◌ (ap₂ (λ R r. matryoshka m.middle R r) (part_whole m.stray) (part_whole m.margin)) (narrowed_whole ms)

pub narrowed_many : (t : ℕ) (ms : List Matryoshka) → length (narrowed_all t ms) ≡ length ms
narrowed_many t ms = length-map ms (narrowed t)

-- a matryoshka narrowed is one too
pub narrowed_legal : {t : ℕ} {ms : List Matryoshka} → t ≤ all_parts → All IsMatryoshka ms → All IsMatryoshka (narrowed_all t ms)
narrowed_legal l All.none = All.none
narrowed_legal {t} l (All.one {a = m} h hs) =
    All.one
    (narrows_legal {m = m} (record { middle_kept = refl; stray_no_larger = part_low m.stray l; margin_no_larger = part_low m.margin l }) h)
    (narrowed_legal l hs)

-- a walk that met nothing finished
met_nothing : (m : ℕ) (w : Walk Matryoshka) → met_in m w ≡ value tt → (vs : List Matryoshka) × (w ≡ finished vs)
met_nothing m (finished vs) e = (vs, refl)
met_nothing m (stopped n vs) e = absurd (no_value e)

-- what is admitted at u is admitted at every smaller t
pub falls : {f : Formula} → WellFormed f → (ms : List Matryoshka) → length ms ≡ f.header.inputs → Falls (admissions f ms)
unfolding admission
falls {f} well ms many = record { admitted_below = below }
  where
    m : ℕ
    m = f.header.inputs

    small : (u : ℕ) → Each (Smaller f.header.scale) (length (narrowed_all u ms)) f.program
    small u = subst (λ (n : ℕ). Each (Smaller f.header.scale) n f.program) (sym (narrowed_many u ms ∙ many)) well.operands_smaller

    below : (t u : ℕ) → t ≤ u → admissions f ms u ≡ value tt → admissions f ms t ≡ value tt
    below t u l e =
        let k = met_nothing m (run (matryoshka_rule f.header.scale) no_matryoshka f.program (narrowed_all u ms)) e in
        ap (met_in m) (run_narrows f.header.scale no_matryoshka f.program (parts_narrow ms l) (small u) k.1).finishes

-- ---- a domain as a caller brings it

abbrev NotBelow : ℤ → Type 0
NotBelow z = BelowZero z → ⊥

not_below_all : (zs : List ℤ) → ((j : ℕ) → j < length zs → NotBelow (number_at zs j)) → All NotBelow zs
not_below_all [] f = All.none
not_below_all (z ∷ zs) f = All.one (f 0 (omega arith)) (not_below_all zs (λ j l. f (suc j) (omega arith)))

-- a signed part is the part of the size
signed_size : (t : ℕ) (z : ℤ) → NotBelow z → nat_abs (signed_part t z) ≡ part t (nat_abs z)
signed_size t (pos n) p = refl
signed_size t (negsuc n) p = absurd (p tt)

part_no_larger : {t : ℕ} → t ≤ all_parts → (z : ℤ) → NotBelow z → NoLarger z (signed_part t z)
part_no_larger l (pos n) p = no_larger (part_low n l)
part_no_larger l (negsuc n) p = absurd (p tt)

parts_no_larger : {t : ℕ} → t ≤ all_parts → {zs : List ℤ} → All NotBelow zs → Rel NoLarger zs (map (signed_part t) zs)
parts_no_larger l All.none = Rel.none
parts_no_larger l (All.one {a = z} p ps) = Rel.one (part_no_larger l z p) (parts_no_larger l ps)

values_at : (t : ℕ) (cs : List ℤ) {ss rs : List ℤ} → All NotBelow ss → All NotBelow rs
    → matryoshki cs (map nat_abs (map (signed_part t) ss)) (map nat_abs (map (signed_part t) rs))
    ≡ narrowed_all t (matryoshki cs (map nat_abs ss) (map nat_abs rs))
values_at t [] p q = refl
values_at t (c ∷ cs) All.none q = refl
values_at t (c ∷ cs) (All.one p ps) All.none = refl
values_at t (c ∷ cs) (All.one {a = s} p ps) (All.one {a = r} q qs) =
    ap₂ ◌∷◌ (ap₂ (λ R r. matryoshka c R r) (signed_size t s p) (signed_size t r q)) (values_at t cs ps qs)

-- no t gives a refusal 13 to 15, and the values at t are the values narrowed
pub tested_at : (m : ℕ) (g : Domain) {t : ℕ} {ms : List Matryoshka} → tested matryoshka_kind m g ≡ value ms → t ≤ all_parts
    → tested matryoshka_kind m (domain_at t g) ≡ value (narrowed_all t ms)
tested_at m g {t} {ms} e l =
    let_through matryoshka_kind m (domain_at t g) (narrower_fit narrower given.0)
    ∙ ap value (values_at t g.middles strays margins ∙ ap (narrowed_all t) given.1)
  where
    given : Fit m (domain_brought g) × (matryoshka_kind.values g ≡ ms)
    given = let_in matryoshka_kind m g e

    d : DomainFit m g
    d = domain_fit g given.0

    strays : All NotBelow g.strays
    strays = not_below_all g.strays (λ j k b. (given.0.each_good j (omega (arith, d.strays_many))).signs (inl b))

    margins : All NotBelow g.margins
    margins = not_below_all g.margins (λ j k b. (given.0.each_good j (omega (arith, d.margins_many))).signs (inr b))

    narrower : NarrowerDomain g (domain_at t g)
    narrower = record { middles_kept = refl; strays_no_larger = parts_no_larger l strays; margins_no_larger = parts_no_larger l margins }

signed_whole : (zs : List ℤ) → map (signed_part all_parts) zs ≡ zs
signed_whole [] = refl
signed_whole (z ∷ zs) =
    ap₂ ◌∷◌ (ap (λ (y : ℤ). floor y all_parts) (sym (+ℤ_idr (z *ℤ pos all_parts))) ∙ floor_unique z 0 (omega arith)) (signed_whole zs)

pub domain_whole : (g : Domain) → domain_at all_parts g ≡ g
domain_whole g = ap₂ (λ ss rs. domain g.middles ss rs) (signed_whole g.strays) (signed_whole g.margins)
