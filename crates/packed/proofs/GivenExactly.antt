-- Each refusal of the check is given exactly when document 01's table says. Assumes nothing.
use mathlib.Core.Path.{◌≡◌, refl, sym, ◌∙◌, ap, subst}
use mathlib.Core.Bool.{Bool, true, false, ◌&&◌, not}
use mathlib.Core.List.{List}
use mathlib.Core.Logic.{◌⊎◌, inl, inr}
use Prim.Native.Nat.{ℕ, ◌+◌, ◌^◌, ◌≤◌, ◌<◌}
use native.Mathlib.Omega.{arith}
use lib.Dec.{leb, ltb, eqb, lit≤}
use borrow.Author.Tests.{leb-true, leb-false, ltb-false, eqb-true, eq-eqb, lt-leb}
use lib.IntN.{nat_abs}
use lib.ListN.{length, take}
use Rattle.rules.specs.Numbers.{M}
use Rattle.rules.specs.Reciprocals.{top_reciprocal_scale}
use Rattle.whole.proofs.Cases.{never}
use Rattle.refusals.specs.Refusals.{refusal_number, OfBytes, in_file_order, reciprocal_scale}
use Rattle.refusals.specs.Said.{refuses}
use Rattle.refusals.specs.Answer.{Answer, value, refused, refuse}
use Rattle.refusals.proofs.Answers.{no_value, refused_same, then_value, then_refused}
use Rattle.bits.specs.Bits.{bits, number}
use Rattle.bits.specs.Reader.{Read}
use Rattle.bits.proofs.Digits.{bits_are}
use Rattle.bits.proofs.Take.{field_got, field_ended}
use Rattle.packed.specs.Items.{FieldKind, version, scale, inputs, instructions, outputs, code, constant, operand, centre, margin, small_scale}
use Rattle.packed.specs.Items.{twos_complement, width, permitted, complaint, from_below, entry, Form, done, ask, read}
use Rattle.packed.specs.Format.{is_padding}
use Rattle.formulas.specs.Formula.{Formula}
use Rattle.formulas.specs.Kinds.{Kind}
use Rattle.formulas.specs.Job.{job, said, Lent, lent_job}
use Rattle.formulas.specs.GivenInRuns.{Terms, GivenInRun, JobNumber}
use Rattle.formulas.specs.Lawful.{Lawful}
use Rattle.formulas.proofs.GivenInRuns.{Refusing, refused_given_in_run, job_last}
use Rattle.packed.specs.Meaning.{whole, formula, checked}
use Rattle.packed.specs.Given.{Comes, here, later, EndsInside, Wrong, HoldsWrong, Meets, BadlyPadded, Given, one}
use Rattle.packed.specs.Given.{two, three, four, five, six, seven, seven_margin, eight, sixteen}
use Rattle.packed.proofs.PaddingGiven.{left_are, not_padding_false, false_not_padding}
use Rattle.packed.proofs.FieldIn.{test_cut, test_failed, test_passed, below_out, above_out}

-- ---- a number is wrong exactly where it is not permitted

out_of : (lo hi n : ℕ) → from_below lo hi n ≡ false → (n < lo) ⊎ (hi ≤ n)
out_of lo hi n e = by_low (leb lo n) refl
  where
    by_high : leb lo n ≡ true → (t : Bool) → ltb n hi ≡ t → (n < lo) ⊎ (hi ≤ n)
    by_high u true v = never (sym (ap (λ (t : Bool). t && ltb n hi) u ∙ v) ∙ e)
    by_high u false v = inr (ltb-false n hi v)

    by_low : (t : Bool) → leb lo n ≡ t → (n < lo) ⊎ (hi ≤ n)
    by_low true u = by_high u (ltb n hi) refl
    by_low false u = inl (leb-false lo n u)

high : {hi n : ℕ} → (n < 0) ⊎ (hi ≤ n) → hi ≤ n
high (inl l) = omega arith
high (inr l) = l

not_one : {n : ℕ} → (n < 1) ⊎ (2 ≤ n) → n ≡ 1 → ⊥
not_one (inl l) e = omega arith
not_one (inr l) e = omega arith

least : {n : ℕ} (t : Bool) → eqb n (2 ^ 31) ≡ t → not t ≡ false → n ≡ 2 ^ 31
least {n} true e k = eqb-true n (2 ^ 31) e
least false e k = never k

pub wrong_is : (k : FieldKind) (n : ℕ) → permitted k n ≡ false → Wrong k n
wrong_is version n e = not_one (out_of 1 2 n e)
wrong_is scale n e = high (out_of 0 31 n e)
wrong_is inputs n e = high (out_of 0 17 n e)
wrong_is instructions n e = high (out_of 0 513 n e)
wrong_is outputs n e = out_of 1 17 n e
wrong_is code n e = high (out_of 0 7 n e)
wrong_is constant n e = least (eqb n (2 ^ 31)) refl e
wrong_is (operand v) n e = high (out_of 0 v n e)
wrong_is centre n e = never e
wrong_is (margin c) n e = leb-false (nat_abs (twos_complement c) + n) M e
wrong_is (small_scale F) n e = leb-false F top_reciprocal_scale e

other_than_one : (n : ℕ) → (n ≡ 1 → ⊥) → (n < 1) ⊎ (2 ≤ n)
other_than_one n d = by_test (leb 1 n) refl
  where
    by_test : (t : Bool) → leb 1 n ≡ t → (n < 1) ⊎ (2 ≤ n)
    by_test true e = let l : 1 ≤ n = leb-true 1 n e in inr (omega arith)
    by_test false e = inl (leb-false 1 n e)

either_out : (lo hi n : ℕ) → (n < lo) ⊎ (hi ≤ n) → from_below lo hi n ≡ false
either_out lo hi n (inl l) = below_out lo hi n l
either_out lo hi n (inr l) = above_out lo hi n l

pub wrong_not_permitted : (k : FieldKind) (n : ℕ) → Wrong k n → permitted k n ≡ false
wrong_not_permitted version n d = either_out 1 2 n (other_than_one n d)
wrong_not_permitted scale n l = above_out 0 31 n l
wrong_not_permitted inputs n l = above_out 0 17 n l
wrong_not_permitted instructions n l = above_out 0 513 n l
wrong_not_permitted outputs n l = either_out 1 17 n l
wrong_not_permitted code n l = above_out 0 7 n l
wrong_not_permitted constant n e = ap not (eq-eqb n (2 ^ 31) e)
wrong_not_permitted (operand v) n l = above_out 0 v n l
wrong_not_permitted centre n l = absurd l
wrong_not_permitted (margin c) n l = lt-leb (nat_abs (twos_complement c) + n) M l
wrong_not_permitted (small_scale F) n l = lt-leb F top_reciprocal_scale l

-- ---- one field

module _ (k : FieldKind) (bs : List ℕ) where
  entry_ended : EndsInside k bs → entry k bs ≡ refused 1
  entry_ended l = test_cut (width k) (permitted k) (complaint k) bs (field_ended (width k) bs l)

  entry_wrong : HoldsWrong k bs → entry k bs ≡ refuse (complaint k)
  entry_wrong h =
      test_failed (width k) (permitted k) (complaint k) bs (field_got (width k) bs h.0)
      (wrong_not_permitted k _ h.1)

  -- the three things that can be of one field
  data Found : Type 0 where
    cut : EndsInside k bs → Found
    wrong : HoldsWrong k bs → Found
    fine : (x : Read ℕ) → entry k bs ≡ value x → Found

  found : Found
  found = by_length (leb (width k) (length bs)) refl
    where
      by_test : width k ≤ length bs → (t : Bool) → permitted k (number (take (width k) bs)) ≡ t → Found
      by_test l true e =
          fine _ (test_passed (width k) (permitted k) (complaint k) bs (field_got (width k) bs l) e)
      by_test l false e = wrong (l, wrong_is k _ e)

      by_length : (t : Bool) → leb (width k) (length bs) ≡ t → Found
      by_length true e = by_test (leb-true (width k) (length bs) e) (permitted k (number (take (width k) bs))) refl
      by_length false e = cut (leb-false (width k) (length bs) e)

-- ---- a form

-- why a form is refused
data Faulty {A : Type 0} (f : Form A) (bs : List ℕ) : ℕ → Type 0 where
  ends : {k : FieldKind} {cs : List ℕ} → Comes f bs k cs → EndsInside k cs → Faulty f bs 1
  holds : (k : FieldKind) {cs : List ℕ} → Comes f bs k cs → HoldsWrong k cs → Faulty f bs (refusal_number (complaint k))

faulty : {A : Type 0} (f : Form A) (bs : List ℕ) {n : ℕ} → read f bs ≡ refused n → Faulty f bs n
faulty (done a) bs e = absurd (no_value (sym e))
faulty {A} (ask k f) bs {n} e = by_found (found k bs) (λ m cs. faulty (f m) cs)
  where
    rest : Read ℕ → Answer (Read A)
    rest x = read (f x.got) x.left

    -- the field's own refusal is the form's
    same : {m : ℕ} → entry k bs ≡ refused m → m ≡ n
    same u = refused_same (sym (then_refused rest u) ∙ e)

    further : {m : ℕ} (x : Read ℕ) → entry k bs ≡ value x → Faulty (f x.got) x.left m → Faulty (ask k f) bs m
    further x g (ends c l) = ends (later g c) l
    further x g (holds j c h) = holds j (later g c) h

    by_found : Found k bs → ((m : ℕ) (cs : List ℕ) → read (f m) cs ≡ refused n → Faulty (f m) cs n)
        → Faulty (ask k f) bs n
    by_found (cut l) rec = subst (Faulty (ask k f) bs) (same (entry_ended k bs l)) (ends here l)
    by_found (wrong h) rec = subst (Faulty (ask k f) bs) (same (entry_wrong k bs h)) (holds k here h)
    by_found (fine x g) rec = further x g (rec x.got x.left (sym (then_value rest g) ∙ e))

-- what is refused at a field that the reader comes to is the form's refusal
comes_refused : {A : Type 0} {f : Form A} {bs cs : List ℕ} {k : FieldKind} {n : ℕ} → Comes f bs k cs → entry k cs ≡ refused n
    → read f bs ≡ refused n
comes_refused (here {k} {f}) e = then_refused (λ x. read (f x.got) x.left) e
comes_refused (later {f} g c) e = then_value (λ x. read (f x.got) x.left) g ∙ comes_refused c e

-- ---- the check

module _ (s : List ℕ) where
  unread : {n : ℕ} → read whole (bits s) ≡ refused n → checked s ≡ refused n
  unfolding checked formula
  unread e = rw e

  badly_padded : BadlyPadded s → checked s ≡ refused 8
  unfolding checked formula
  badly_padded b = rw (b.reads, not_padding_false b.all.left b.not_padding)

  meets_wrong : (k : FieldKind) → Meets s k HoldsWrong → checked s ≡ refuse (complaint k)
  meets_wrong k m = unread (comes_refused m.comes (entry_wrong k m.there m.holds))

  pub given_refused : {n : ℕ} → Given s n → checked s ≡ refused n
  given_refused (one k m) = unread (comes_refused m.comes (entry_ended k m.there m.holds))
  given_refused (two m) = meets_wrong version m
  given_refused (three m) = meets_wrong scale m
  given_refused (four (inl m)) = meets_wrong inputs m
  given_refused (four (inr (inl m))) = meets_wrong instructions m
  given_refused (four (inr (inr m))) = meets_wrong outputs m
  given_refused (five m) = meets_wrong code m
  given_refused (six v m) = meets_wrong (operand v) m
  given_refused (seven m) = meets_wrong constant m
  given_refused (seven_margin c m) = meets_wrong (margin c) m
  given_refused (eight b) = badly_padded b
  given_refused (sixteen F m) = meets_wrong (small_scale F) m

  met : {k : FieldKind} {P : FieldKind → List ℕ → Type 0} {cs : List ℕ} → Comes whole (bits s) k cs → P k cs → Meets s k P
  met {cs = cs} c h = record { there = cs; comes = c; holds = h }

  of_faulty : {n : ℕ} → Faulty whole (bits s) n → Given s n
  of_faulty (ends {k} c l) = one k (met c l)
  of_faulty (holds version c h) = two (met c h)
  of_faulty (holds scale c h) = three (met c h)
  of_faulty (holds inputs c h) = four (inl (met c h))
  of_faulty (holds instructions c h) = four (inr (inl (met c h)))
  of_faulty (holds outputs c h) = four (inr (inr (met c h)))
  of_faulty (holds code c h) = five (met c h)
  of_faulty (holds constant c h) = seven (met c h)
  of_faulty (holds centre c h) = absurd h.1
  of_faulty (holds (margin n) c h) = seven_margin n (met c h)
  of_faulty (holds (operand v) c h) = six v (met c h)
  of_faulty (holds (small_scale F) c h) = sixteen F (met c h)

  accepted : {x : Read Formula} → read whole (bits s) ≡ value x → is_padding x.left ≡ true
      → checked s ≡ value x.got.header
  unfolding checked formula
  accepted e p = rw (e, p)

  pub refused_given : {n : ℕ} → checked s ≡ refused n → Given s n
  refused_given {n} e = by_read (read whole (bits s)) refl
    where
      by_padding : (x : Read Formula) → read whole (bits s) ≡ value x → (t : Bool) → is_padding x.left ≡ t
          → Given s n
      by_padding x u true p = absurd (no_value (sym e ∙ accepted u p))
      by_padding x u false p =
          let n = false_not_padding x.left (left_are whole (bits_are s) u) p in
          let b : BadlyPadded s = record { all = x; reads = u; not_padding = n } in
          subst (Given s) (refused_same (sym (badly_padded b) ∙ e)) (eight b)

      by_read : (a : Answer (Read Formula)) → read whole (bits s) ≡ a → Given s n
      by_read (value x) u = by_padding x u (is_padding x.left) refl
      by_read (refused m) u = of_faulty (faulty whole (bits s) (u ∙ ap refused (refused_same (sym (unread u) ∙ e))))

-- ---- what a job on these bytes gives

given_of_bytes : {s : List ℕ} {n : ℕ} → Given s n → OfBytes n
given_of_bytes (one k m) = in_file_order (lit≤ tt) (lit≤ tt)
given_of_bytes (two m) = in_file_order (lit≤ tt) (lit≤ tt)
given_of_bytes (three m) = in_file_order (lit≤ tt) (lit≤ tt)
given_of_bytes (four m) = in_file_order (lit≤ tt) (lit≤ tt)
given_of_bytes (five m) = in_file_order (lit≤ tt) (lit≤ tt)
given_of_bytes (six v m) = in_file_order (lit≤ tt) (lit≤ tt)
given_of_bytes (seven m) = in_file_order (lit≤ tt) (lit≤ tt)
given_of_bytes (seven_margin c m) = in_file_order (lit≤ tt) (lit≤ tt)
given_of_bytes (eight b) = in_file_order (lit≤ tt) (lit≤ tt)
given_of_bytes (sixteen F m) = reciprocal_scale

numbered : {n : ℕ} → OfBytes n → 1 ≤ n
numbered (in_file_order l m) = l
numbered reciprocal_scale = lit≤ tt

-- reading refuses by its own numbers
module _ (s : List ℕ) (n : ℕ) (e : formula s ≡ refused n) where
  pub unread_of_bytes : OfBytes n
  unfolding checked
  unread_of_bytes = given_of_bytes (refused_given s (then_refused (λ f. value f.header) e))

  pub formula_numbered : 1 ≤ n
  formula_numbered = numbered unread_of_bytes

module _ {K : Kind} {T : Terms K} (law : Lawful K) (refusing : Refusing K T) (s : List ℕ) (given : K.Readings) where
  -- 10, 11, 13 to 15 and 17 are given exactly when the documents say; `given_in_run_refused` is the other way
  pub run_refused_given : (lent : Lent K) {n k : ℕ} → (OfBytes n → ⊥) → said (lent_job K (formula s) given lent) ≡ refuses n k
      → GivenInRun K T (formula s) given lent n k
  run_refused_given lent other e = refused_given_in_run law refusing (formula s) given lent (unread_of_bytes s) other e

  pub job_numbers : (work output : ℕ) {n k : ℕ} → said (job K (formula s) given work output) ≡ refuses n k → JobNumber n
  job_numbers work output e = job_last law refusing (formula s) given work output (unread_of_bytes s) e
