-- What a text that was accepted leaves: its formula's bytes, of which the exact results are told; two outcomes are equal.
-- Assumes nothing.
use mathlib.Core.Path.{◌≡◌, refl, sym, ◌∙◌, ap, subst}
use mathlib.Core.List.{List}
use Prim.Native.Nat.{ℕ, ◌≤◌}
use native.Mathlib.Omega.{arith}
use lib.IntN.{ℤ, nat_abs}
use lib.ListN.{length, take, get_or}
use Rattle.lists.specs.Over.{over}
use Rattle.lists.proofs.Over.{over_front}
use Rattle.std.specs.declared.result.Result.TheVariants.{Ok}
use Rattle.refusals.specs.Said.{Reply}
use Rattle.refusals.specs.Answer.{value, refused}
use Rattle.refusals.specs.Places.{Placed}
use Rattle.refusals.specs.Said.{answered}
use Rattle.refusals.proofs.OneReply.{one_reply, never_both, first_said}
use Rattle.rules.specs.Values.{Fraction}
use Rattle.formulas.specs.ExactRun.{nought, ExactRun}
use Rattle.packed.specs.Meaning.{formula}
use Rattle.packing.proofs.RoundTrip.{read_packed}
use Rattle.packing.proofs.Lengths.{packed_few}
use Rattle.expressions.specs.Texts.{Text, open_at_once}
use Rattle.expressions.specs.Compiled.{compiled, worth, Same}
use Rattle.expressions.proofs.Prefixes.{one_tree}
use Rattle.expressions.proofs.Exactly.{text_exact}
use Rattle.text_packing.specs.TextPacking.{text_into, text_said, text_front, PacksText}
use Rattle.text_packing.specs.GivenInText.{IsText, formula_in, Accepts, AmongResults, HoldsText}
use Rattle.text_packing.proofs.Said.{text_well_formed}
use Rattle.text_packing.proofs.Given.{packed_accepts}

module _ {F m : ℤ} {s : List ℕ} (x : IsText F m s) where
  among_results : (xs : List Fraction) → length xs ≡ nat_abs m → AmongResults (formula_in x) xs (worth (λ i. get_or xs i nought) x.says)
  among_results xs e = of_count (nat_abs m) e x.is_text
    where
      of_count : (k : ℕ) → length xs ≡ k → Text k open_at_once s x.says → AmongResults (formula_in x) xs (worth (λ i. get_or xs i nought) x.says)
      of_count k f y =
          let a = text_exact (nat_abs F) xs (subst (λ n. Text n open_at_once s x.says) (sym f) y) in
          let c : compiled (nat_abs F) x.says (length xs) ≡ compiled (nat_abs F) x.says (nat_abs m) = ap (compiled (nat_abs F) x.says) e in
          record {
            output = (compiled (nat_abs F) x.says (nat_abs m)).result;
            one_output = refl;
            all = a.all;
            runs = subst (λ d. ExactRun (nat_abs F) d.program xs a.all) c a.runs;
            is = subst (λ d. Same (get_or a.all d.result nought) (worth (λ i. get_or xs i nought) x.says)) c a.is_worth;
          }

-- the bytes that were answered
record Written (F m : ℤ) (s old new : List ℕ) (n : ℕ) : Type 0 where
  bytes : List ℕ
  accepts : Accepts (length old) F m s bytes
  many : n ≡ length bytes
  writes : new ≡ over bytes old

answered_bytes : {F m : ℤ} {s old new : List ℕ} {n : ℕ} → PacksText F m s old new (Ok n) → Written F m s old new n
answered_bytes {F} {m} {s} {old} {new} {n} p = by_answer (text_into (length old) F m s) refl p.says
  where
    by_answer : (a : Placed (List ℕ)) → text_into (length old) F m s ≡ a → answered n ≡ text_said a → Written F m s old new n
    by_answer (value bytes) t u =
        record {
          bytes = bytes;
          accepts = packed_accepts (length old) F m s t;
          many = ap first_said u;
          writes = p.writes ∙ ap (λ a. over (text_front a) old) t;
        }
    by_answer (refused w) t u = absurd (never_both u)

-- demand by request h: the bytes hold the text
pub text_held : {F m : ℤ} {s old new : List ℕ} {n : ℕ} → PacksText F m s old new (Ok n) → HoldsText F m s new n
text_held {F} {m} {s} {old} {new} {n} p =
    let w = answered_bytes p in
    let x = w.accepts.text in
    record {
      text = x;
      one_reading = λ j t y. one_tree (nat_abs m) y x.is_text;
      means =
          ap formula
          (ap (take n) w.writes ∙ over_front w.bytes old (sym w.many) ∙ w.accepts.is)
          ∙ read_packed (formula_in x) (text_well_formed x w.accepts.passed);
      exact = among_results x;
    }

pub text_bytes_few : {F m : ℤ} {s old new : List ℕ} {n : ℕ} → PacksText F m s old new (Ok n) → n ≤ 4248
text_bytes_few p =
    let w = answered_bytes p in
    let x = w.accepts.text in
    omega (arith, w.many, ap length w.accepts.is, packed_few (formula_in x) (text_well_formed x w.accepts.passed))

pub text_one_outcome : {F m : ℤ} {s old new₁ new₂ : List ℕ} {r t : Reply} → PacksText F m s old new₁ r → PacksText F m s old new₂ t → (r ≡ t) × (new₁ ≡ new₂)
text_one_outcome {r = r} {t = t} a b = (one_reply r t (a.says ∙ sym b.says), a.writes ∙ sym b.writes)
