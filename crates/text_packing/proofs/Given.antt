-- Each refusal of packing a text is given exactly when its words say, and it is accepted exactly when none is. Assumes
-- nothing.
use mathlib.Core.Path.{◌≡◌, refl, sym, ◌∙◌, ap, subst}
use mathlib.Core.Bool.{Bool, true, false, cond}
use mathlib.Core.List.{List}
use mathlib.Core.Logic.{◌↔◌}
use Prim.Native.Nat.{ℕ}
use borrow.Author.Tests.{leb-true, leb-false, le-leb, lt-leb}
use lib.Dec.{leb}
use lib.IntN.{ℤ, nat_abs}
use lib.ListN.{length}
use Rattle.std.specs.declared.result.Result.TheVariants.{Err}
use Rattle.refusals.specs.Places.{because}
use Rattle.refusals.specs.declared.Refusal.{Refusal}
use Rattle.refusals.specs.declared.Refusal.TheVariants as refusal
use Rattle.refusals.specs.Said.{Reply}
use Rattle.refusals.specs.Refusals.{refusal_number}
use Rattle.refusals.specs.Answer.{Answer, value, refused, refuse, then}
use Rattle.refusals.specs.Places.{Placed, elsewhere}
use Rattle.refusals.specs.Places as places
use Rattle.refusals.specs.Said.{refuses, reply_said}
use Rattle.refusals.proofs.OneReply.{one_reply, never_both, first_said, place_said}
use Rattle.packed.specs.Items.{scale, inputs}
use Rattle.packing.specs.Packing.{fits, pack_into}
use Rattle.packing.specs.Slots.{packed_bytes}
use Rattle.packing.proofs.PackingGiven.{unfit_is, unfit_not}
use Rattle.expressions.specs.Texts.{Parsed, tree, refused_at, parse, open_at_once}
use Rattle.expressions.specs.Compiled.{compiled}
use Rattle.expressions.proofs.Prefixes.{text_parsed, parsed_text, refused_as}
use Rattle.expressions.proofs.Refusals.{refused_so}
use Rattle.text_packing.specs.TextPacking.{scale_and_inputs, instructions_tested, handed_over, text_into, text_said, PacksText}
use Rattle.text_packing.specs.GivenInText.{IsText, formula_in, Passed, GivenInText, three, four, misread, too_many, seven, ten, Accepts}
use Rattle.text_packing.proofs.Stepwise.{into_untested, into_parsed}
use Rattle.text_packing.proofs.Tested.{Tested, passes, many, unfit, tested, passed_tested, many_tested, unfit_tested}
use Rattle.text_packing.proofs.Said.{text_packs}

module _ (room : ℕ) (F m : ℤ) (s : List ℕ) where
  both_fit : fits scale F ≡ true → fits inputs m ≡ true → scale_and_inputs F m ≡ value tt
  both_fit f g =
      ap (λ t. cond t (cond (fits inputs m) (value tt) (refuse refusal.Count)) (refuse refusal.Scale)) f
      ∙ ap (λ t. cond t (value tt) (refuse refusal.Count)) g

  -- what follows the text's own tests
  into_tested : (x : IsText F m s) {a : Answer (Unit {0})} → instructions_tested 0 (formula_in x).program ≡ a
      → text_into room F m s ≡ elsewhere (then a (λ u. pack_into room (handed_over F m (compiled (nat_abs F) x.says (nat_abs m)))))
  into_tested x e =
      into_parsed room F m s (both_fit x.scale_fits x.inputs_fit) (text_parsed (nat_abs m) x.is_text)
      ∙ ap (λ b. elsewhere (then b (λ u. pack_into room (handed_over F m (compiled (nat_abs F) x.says (nat_abs m)))))) e

  -- and those of its instructions
  into_packed : (x : IsText F m s) → Passed (formula_in x).program
      → text_into room F m s ≡ elsewhere (cond (leb (length (packed_bytes (formula_in x))) room) (value (packed_bytes (formula_in x))) (refuse refusal.NoRoom))
  unfolding pack_into
  into_packed x p =
      into_tested x (passed_tested p)
      ∙ ap (λ b. elsewhere (then b (λ f. cond (leb (length (packed_bytes f)) room) (value (packed_bytes f)) (refuse refusal.NoRoom)))) (text_packs x p)

  pub given_refused : {n p : ℕ} → GivenInText room F m s n p → text_into room F m s ≡ places.refused_at n p
  given_refused (three u) =
      into_untested room F m s (ap (λ t. cond t (cond (fits inputs m) (value tt) (refuse refusal.Count)) (refuse refusal.Scale)) (unfit_not scale F u))
  given_refused (four f u) =
      into_untested room F m s
      (ap (λ t. cond t (cond (fits inputs m) (value tt) (refuse refusal.Count)) (refuse refusal.Scale)) f
      ∙ ap (λ t. cond t (value tt) (refuse refusal.Count)) (unfit_not inputs m u))
  given_refused (misread f g r) = into_parsed room F m s (both_fit f g) (refused_so (nat_abs m) open_at_once s r)
  given_refused (too_many x q) = into_tested x (many_tested q)
  given_refused (seven x q) = into_tested x (unfit_tested q)
  given_refused (ten x p l) =
      into_packed x p
      ∙ ap (λ t. elsewhere (cond t (value (packed_bytes (formula_in x))) (refuse refusal.NoRoom))) (lt-leb (length (packed_bytes (formula_in x))) room l)

  pub accepts_packed : {bytes : List ℕ} → Accepts room F m s bytes → text_into room F m s ≡ value bytes
  accepts_packed {bytes} a =
      into_packed a.text a.passed
      ∙ ap (λ l. elsewhere (cond (leb (length l) room) (value l) (refuse refusal.NoRoom))) (sym a.is)
      ∙ ap (λ t. elsewhere (cond t (value bytes) (refuse refusal.NoRoom))) (le-leb (length bytes) room a.has_room)

  -- every answer is one or the other
  data Answers : Placed (List ℕ) → Type 0 where
    gives : {bytes : List ℕ} → Accepts room F m s bytes → Answers (value bytes)
    stops : {n p : ℕ} → GivenInText room F m s n p → Answers (places.refused_at n p)

  by_room : (x : IsText F m s) → Passed (formula_in x).program → (t : Bool) → leb (length (packed_bytes (formula_in x))) room ≡ t
      → Answers (elsewhere (cond t (value (packed_bytes (formula_in x))) (refuse refusal.NoRoom)))
  by_room x p true e = gives (record { text = x; passed = p; is = refl; has_room = leb-true (length (packed_bytes (formula_in x))) room e })
  by_room x p false e = stops (ten x p (leb-false (length (packed_bytes (formula_in x))) room e))

  by_instructions : (x : IsText F m s) {a : Answer (Unit {0})} → Tested (formula_in x).program a
      → Answers (elsewhere (then a (λ u. pack_into room (handed_over F m (compiled (nat_abs F) x.says (nat_abs m))))))
  unfolding pack_into
  by_instructions x (passes p) =
      subst Answers
      (sym (ap (λ b. elsewhere (then b (λ f. cond (leb (length (packed_bytes f)) room) (value (packed_bytes f)) (refuse refusal.NoRoom)))) (text_packs x p)))
      (by_room x p (leb (length (packed_bytes (formula_in x))) room) refl)
  by_instructions x (many q) = stops (too_many x q)
  by_instructions x (unfit q) = stops (seven x q)

  by_parsed : fits scale F ≡ true → fits inputs m ≡ true → (a : Parsed) → parse (nat_abs m) open_at_once s ≡ a → Answers (text_into room F m s)
  by_parsed f g (tree t) e =
      let x : IsText F m s = record { scale_fits = f; inputs_fit = g; says = t; is_text = parsed_text (nat_abs m) s e } in
      subst Answers (sym (into_tested x refl)) (by_instructions x (tested (formula_in x).program))
  by_parsed f g (refused_at n p) e =
      subst Answers (sym (into_parsed room F m s (both_fit f g) e)) (stops (misread f g (refused_as (nat_abs m) s e)))

  by_inputs : fits scale F ≡ true → (t : Bool) → fits inputs m ≡ t → Answers (text_into room F m s)
  by_inputs f true g = by_parsed f g (parse (nat_abs m) open_at_once s) refl
  by_inputs f false g = let y : GivenInText room F m s 4 0 = four f (unfit_is inputs m g) in subst Answers (sym (given_refused y)) (stops y)

  by_scale : (t : Bool) → fits scale F ≡ t → Answers (text_into room F m s)
  by_scale true f = by_inputs f (fits inputs m) refl
  by_scale false f = let y : GivenInText room F m s 3 0 = three (unfit_is scale F f) in subst Answers (sym (given_refused y)) (stops y)

  answers : Answers (text_into room F m s)
  answers = by_scale (fits scale F) refl

  given_of : {n p : ℕ} → Answers (places.refused_at n p) → GivenInText room F m s n p
  given_of (stops y) = y

  accepts_of : {bytes : List ℕ} → Answers (value bytes) → Accepts room F m s bytes
  accepts_of (gives a) = a

  pub refused_given : {n p : ℕ} → text_into room F m s ≡ places.refused_at n p → GivenInText room F m s n p
  refused_given e = given_of (subst Answers e answers)

  pub packed_accepts : {bytes : List ℕ} → text_into room F m s ≡ value bytes → Accepts room F m s bytes
  packed_accepts e = accepts_of (subst Answers e answers)

  -- "given exactly when"
  pub text_refused_exactly : (n p : ℕ) → (text_into room F m s ≡ places.refused_at n p) ↔ GivenInText room F m s n p
  text_refused_exactly n p = (refused_given, given_refused)

  pub text_accepted_exactly : (bytes : List ℕ) → (text_into room F m s ≡ value bytes) ↔ Accepts room F m s bytes
  text_accepted_exactly bytes = (packed_accepts, accepts_packed)

-- the same of a reply
pub reply_refused_exactly : {F m : ℤ} {s old new : List ℕ} {q : Reply} → PacksText F m s old new q → (r : Refusal) (k : ℕ)
    → (q ≡ Err (because r k)) ↔ GivenInText (length old) F m s (refusal_number r) k
reply_refused_exactly {F} {m} {s} {old} {new} {q} x r k = (there, back)
  where
    there : q ≡ Err (because r k) → GivenInText (length old) F m s (refusal_number r) k
    there e = by_answer (text_into (length old) F m s) refl (sym (ap reply_said e) ∙ x.says)
      where
        by_answer : (a : Placed (List ℕ)) → text_into (length old) F m s ≡ a → refuses (refusal_number r) k ≡ text_said a
            → GivenInText (length old) F m s (refusal_number r) k
        by_answer (value bytes) t u = absurd (never_both (sym u))
        by_answer (refused w) t u =
            refused_given (length old) F m s (t ∙ ap (λ said. places.refused_at (first_said said) (place_said said)) (sym u))

    back : GivenInText (length old) F m s (refusal_number r) k → q ≡ Err (because r k)
    back y = one_reply q (Err (because r k)) (x.says ∙ ap text_said (given_refused (length old) F m s y))
