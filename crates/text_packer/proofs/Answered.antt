-- What packing a text that was read answers: its instructions are not permitted, or the packer's answer. Assumes nothing.
use mathlib.Core.Path.{◌≡◌, refl, sym, ◌∙◌, ap, subst}
use mathlib.Core.Bool.{Bool, true, false, cond}
use mathlib.Core.List.{List, map}
use Prim.Native.Nat.{ℕ, ◌+◌, ◌^◌, ◌≤◌, ◌<◌}
use native.Mathlib.Nat.{le_refl}
use native.Mathlib.Omega.{arith}
use borrow.Author.Tests.{leb-true, leb-false}
use lib.Dec.{leb}
use lib.IntN.{ℤ, nat_abs}
use lib.ListN.{length, take}
use lib.Seq.{take_all, take-length, length-take-le}
use mir.Syntax.{w64}
use mir.Val.{SFits}
use mir.ValLaws.{to_z-of_z}
use Rattle.std.specs.Borrow.{Bor}
use Rattle.std.specs.List.{list_all}
use Rattle.std.specs.declared.result.Result.{Result}
use Rattle.std.specs.declared.result.Result.TheVariants.{Ok, Err}
use Rattle.whole.proofs.Machine.{back}
use Rattle.lists.specs.Over.{over}
use Rattle.refusals.specs.declared.Refusal.{Refusal}
use Rattle.refusals.specs.declared.Refusal.TheVariants as refusal
use Rattle.refusals.specs.Said.{Reply}
use Rattle.refusals.specs.Answer.{value, Answer, refuse, then}
use Rattle.refusals.specs.Places.{elsewhere, because}
use Rattle.rules.specs.Numbers.{top_scale}
use Rattle.formulas.specs.declared.Instruction.{Instruction}
use Rattle.packing.specs.Raw.{handed}
use Rattle.packing.specs.Packing.{pack_into}
use Rattle.packing.specs.PackAnswers.{Packs}
use Rattle.expressions.specs.Compiled.{Compiled, compiled, Proper}
use Rattle.expressions.proofs.Prefixes.{parsed_text}
use Rattle.expressions.proofs.Letters.{proper}
use Rattle.expressions.proofs.Constants.{ordered}
use Rattle.expression_parser.specs.declared.Made.{Made}
use Rattle.expression_parser.specs.Words.{word_of}
use Rattle.expression_parser.specs.Parsed.{TextMade}
use Rattle.text_packer.specs.WordNumbers.{word_fits, permitted, Permitted}
use Rattle.text_packer.specs.WordLists.{words_parts}
use Rattle.text_packing.specs.TextPacking.{scale_and_inputs, instructions_tested, handed_over, text_into, text_said, text_front, PacksText}
use Rattle.text_packing.proofs.Stepwise.{into_parsed, said_elsewhere, front_elsewhere, text_refuses}
use Rattle.text_packer.proofs.Permitting.{passed}
use Rattle.text_packer.proofs.Instructions.{early}
use Rattle.text_packer.proofs.Listed.{AllPlain, plain_front, words_taken, handed_words, tested_few, tested_many}

-- ---- whether its words are permitted

abbrev verdict : Result (List ℕ) Refusal → Answer (Unit {0})
verdict (Ok front) = value tt
verdict (Err e) = refuse e

-- ---- a text that was read, and its words

pub record Packable (F m : ℤ) (s words : List ℕ) (made : Made) : Type 0 where
  pub tested : scale_and_inputs F m ≡ value tt
  pub scale_small : nat_abs F ≤ top_scale
  pub inputs_few : nat_abs m ≤ 16
  pub text : TextMade (nat_abs F) (nat_abs m) s words made
  pub words_all : length words ≡ 512

module _ {F m : ℤ} {s words : List ℕ} {made : Made} (x : Packable F m s words made) where
  abbrev made_of : Compiled
  made_of = compiled (nat_abs F) x.text.says (nat_abs m)

  fine : Proper (nat_abs m) x.text.says
  fine = proper (nat_abs m) (parsed_text (nat_abs m) s x.text.parses)

  named : made_of.result < nat_abs m + length made_of.program
  named = (ordered (nat_abs F) (nat_abs m) x.text.says fine (nat_abs m) (le_refl (nat_abs m))).named

  few_values : (n : ℕ) → n ≤ 512 → AllPlain (take n made_of.program)
  few_values n l =
      plain_front n made_of.program (omega (arith, x.inputs_few))
      (early (nat_abs F) (nat_abs m) x.text.says x.scale_small fine (nat_abs m) (le_refl (nat_abs m)))

  module _ (few : made.count ≤ 512) where
    counted : take made.count made_of.program ≡ made_of.program
    counted = ap (λ n. take n made_of.program) x.text.count_is ∙ take-length made_of.program

    plain : AllPlain made_of.program
    plain = subst AllPlain counted (few_values made.count few)

    taken : take made.count words ≡ map word_of made_of.program
    taken =
        words_taken made.count (omega (arith, x.text.count_is)) (omega (arith, x.words_all)) x.text.keeps
        ∙ ap (λ (is : List Instruction). map word_of is) counted

  words_tested : instructions_tested 0 made_of.program ≡ verdict (permitted words made.count)
  words_tested = by_count (leb made.count (length words)) refl
    where
      few_told : (t : Bool) → cond t (value tt) (refuse refusal.Constant)
          ≡ verdict (cond t (cond true (Ok (take made.count words)) (Err refusal.Count)) (Err refusal.Constant))
      few_told true = refl
      few_told false = refl

      many_told : (t : Bool) → cond t (refuse refusal.Count) (refuse refusal.Constant)
          ≡ verdict (cond t (cond false (Ok (take made.count words)) (Err refusal.Count)) (Err refusal.Constant))
      many_told true = refl
      many_told false = refl

      by_count : (u : Bool) → leb made.count (length words) ≡ u → instructions_tested 0 made_of.program ≡ verdict (permitted words made.count)
      by_count true q =
          let l : made.count ≤ 512 = omega (arith, leb-true made.count (length words) q, x.words_all) in
          tested_few 0 made_of.program (omega (arith, x.text.count_is)) (plain l)
          ∙ ap (λ ws. cond (list_all word_fits ws) (value tt) (refuse refusal.Constant)) (sym (taken l))
          ∙ few_told (list_all word_fits (take made.count words))
          ∙ ap (λ u. verdict (cond (list_all word_fits (take made.count words)) (cond u (Ok (take made.count words)) (Err refusal.Count)) (Err refusal.Constant))) (sym q)
      by_count false q =
          let l : 512 < made.count = omega (arith, leb-false made.count (length words) q, x.words_all) in
          tested_many 512 0 made_of.program refl (omega (arith, x.text.count_is)) (few_values 512 (omega arith))
          ∙ ap (λ ws. cond (list_all word_fits ws) (refuse refusal.Count) (refuse refusal.Constant))
          (sym (words_taken 512 (omega (arith, x.text.count_is)) (omega (arith, x.words_all)) x.text.keeps)
          ∙ take_all 512 words (omega (arith, x.words_all)) ∙ sym (take_all made.count words (omega (arith, x.words_all))))
          ∙ many_told (list_all word_fits (take made.count words))
          ∙ ap (λ u. verdict (cond (list_all word_fits (take made.count words)) (cond u (Ok (take made.count words)) (Err refusal.Count)) (Err refusal.Constant))) (sym q)

  into_tested : (room : ℕ) {a : Answer (Unit {0})} → instructions_tested 0 made_of.program ≡ a
      → text_into room F m s ≡ elsewhere (then a (λ u. pack_into room (handed_over F m made_of)))
  into_tested room e =
      into_parsed room F m s x.tested x.text.parses ∙ ap (λ b. elsewhere (then b (λ u. pack_into room (handed_over F m made_of)))) e

  pub not_permitted : {old : List ℕ} {e : Refusal} → Permitted words made.count (Err e) → PacksText F m s old old (Err (because e 0))
  not_permitted {old} {e} p = text_refuses (into_tested (length old) (words_tested ∙ ap verdict (sym p.is)))

  module _ {front : Bor (List ℕ)} (p : Permitted words made.count (Ok front)) where
    few : made.count ≤ 512
    few = omega (arith, (passed p).0, x.words_all)

    pub front_few : length front.now ≤ 512
    front_few = omega (arith, few, ap length (passed p).1, length-take-le made.count words (passed p).0)

    pub value_small : made.value < 2 ^ 63
    value_small = omega (arith, few, x.inputs_few, x.text.value_is, x.text.count_is, named)

    pub front_packed : {old new : List ℕ} {r : Reply} → SFits w64 F → SFits w64 m → Packs (handed (back F) (back m) (words_parts made.value front.now)) old new r
        → PacksText F m s old new r
    front_packed {old} {new} {r} u v q =
        let k = subst (λ g. Packs g old new r) (λ i. handed (to_z-of_z w64 F u i) (to_z-of_z w64 m v i) (words_parts made.value front.now)) q in
        record {
          says = k.says ∙ sym (ap text_said so ∙ said_elsewhere (pack_into (length old) (handed F m (words_parts made.value front.now))));
          writes =
              k.writes
              ∙ sym (ap (λ a. over (text_front a) old) so ∙ ap (λ b. over b old) (front_elsewhere (pack_into (length old) (handed F m (words_parts made.value front.now)))));
        }
      where
        so : text_into (length old) F m s ≡ elsewhere (pack_into (length old) (handed F m (words_parts made.value front.now)))
        so =
            into_tested (length old) (words_tested ∙ ap verdict (sym p.is))
            ∙ ap (λ g. elsewhere (pack_into (length old) g)) (sym (handed_words F m front.now made_of (plain few) x.text.value_is ((passed p).1 ∙ taken few)))
