-- The round trips, of what packing and reading back leave: one called on what the other left. Assumes nothing.
use mathlib.Core.Path.{◌≡◌, refl, sym, ◌∙◌, ap, ap₂, subst}
use mathlib.Core.Bool.{Bool, true, false, cond, ◌&&◌}
use mathlib.Core.List.{List, [], ◌∷◌, map}
use Prim.Native.Nat.{ℕ, suc, ◌≤◌}
use native.Mathlib.Omega.{arith}
use borrow.Author.Tests.{eqb-true, eq-eqb, le-leb}
use lib.Dec.{eqb, leb}
use lib.IntN.{ℤ, pos}
use lib.ListN.{length, take, length-map}
use Rattle.std.specs.declared.result.Result.TheVariants.{Ok}
use Rattle.whole.proofs.Cases.{both, down}
use Rattle.lists.specs.Over.{over}
use Rattle.lists.proofs.Over.{over_front}
use Rattle.refusals.specs.Said.{Reply}
use Rattle.refusals.specs.Answer.{Answer, value, refused, then}
use Rattle.refusals.specs.Said.{answered}
use Rattle.refusals.proofs.Answers.{no_value, same_value, first_of}
use Rattle.refusals.proofs.OneReply.{first_said, one_reply, never_both}
use Rattle.writing.specs.Bytes.{AreBytes}
use Rattle.formulas.specs.declared.Header.{Header}
use Rattle.formulas.specs.Formula.{Formula, InLimits}
use Rattle.packed.specs.Meaning.{formula}
use Rattle.packed.proofs.WellFormed.{accepted_well_formed}
use Rattle.packing.specs.Raw.{RawInstruction, RawFormula, raw, Parts, instructions_of, handed, parts_of}
use Rattle.packing.specs.Raw.{raw_formula, formula_of, own_second, own, own_formula}
use Rattle.packing.specs.Slots.{packed_bytes}
use Rattle.packing.specs.Packing.{pack_into}
use Rattle.packing.specs.Unpacking.{has_places, unpack_into}
use Rattle.packing.specs.PackAnswers.{packed_said, packed_front, Packs, unpacked_header, unpacked_front, Unpacks}
use Rattle.packing.specs.ReadBack.{own_seconds, ReadBack, fronts}
use Rattle.packing.proofs.RoundTrip.{packed_read}
use Rattle.packing.proofs.Lengths.{packed_few}
use Rattle.packing.proofs.Packs.{pack_into_written, pack_well_formed, own_formula_of, formula_again}

-- ---- two outcomes of the packer are equal

pub packs_one_outcome : {given : RawFormula} {old new₁ new₂ : List ℕ} {r t : Reply} → Packs given old new₁ r
    → Packs given old new₂ t → (r ≡ t) × (new₁ ≡ new₂)
packs_one_outcome {r = r} {t = t} a b = (one_reply r t (a.says ∙ sym b.says), a.writes ∙ sym b.writes)

-- ---- lists of instructions, taken apart and put together

codes_own : (cs fs ss : List ℤ) → length cs ≡ length fs → length cs ≡ length ss
    → map (λ i. i.code) (map own (instructions_of cs fs ss)) ≡ cs
codes_own [] fs ss e g = refl
codes_own (c ∷ cs) [] ss e g = absurd (let z : suc (length cs) ≡ 0 = e in omega arith)
codes_own (c ∷ cs) (a ∷ fs) [] e g = absurd (let z : suc (length cs) ≡ 0 = g in omega arith)
codes_own (c ∷ cs) (a ∷ fs) (b ∷ ss) e g = ap (λ l. c ∷ l) (codes_own cs fs ss (down e) (down g))

firsts_own : (cs fs ss : List ℤ) → length cs ≡ length fs → length cs ≡ length ss
    → map (λ i. i.first) (map own (instructions_of cs fs ss)) ≡ fs
firsts_own [] [] ss e g = refl
firsts_own [] (a ∷ fs) ss e g = absurd (let z : 0 ≡ suc (length fs) = e in omega arith)
firsts_own (c ∷ cs) [] ss e g = absurd (let z : suc (length cs) ≡ 0 = e in omega arith)
firsts_own (c ∷ cs) (a ∷ fs) [] e g = absurd (let z : suc (length cs) ≡ 0 = g in omega arith)
firsts_own (c ∷ cs) (a ∷ fs) (b ∷ ss) e g = ap (λ l. a ∷ l) (firsts_own cs fs ss (down e) (down g))

seconds_own : (cs fs ss : List ℤ) → length cs ≡ length fs
    → map (λ i. i.second) (map own (instructions_of cs fs ss)) ≡ own_seconds cs ss
seconds_own [] fs ss e = refl
seconds_own (c ∷ cs) [] ss e = absurd (let z : suc (length cs) ≡ 0 = e in omega arith)
seconds_own (c ∷ cs) (a ∷ fs) [] e = refl
seconds_own (c ∷ cs) (a ∷ fs) (b ∷ ss) e = ap (λ l. own_second c b ∷ l) (seconds_own cs fs ss (down e))

together : (rs : List RawInstruction)
    → instructions_of (map (λ i. i.code) rs) (map (λ i. i.first) rs) (map (λ i. i.second) rs) ≡ rs
together [] = refl
together (r ∷ rs) = ap (λ l. raw r.code r.first r.second ∷ l) (together rs)

handed_parts : (F m : ℤ) (r : RawFormula) → handed F m (parts_of r)
    ≡ record { scale = F; inputs = m; program = r.program; as_long = true; results = r.results }
handed_parts F m r =
    λ i. record {
      scale = F;
      inputs = m;
      program = together r.program i;
      as_long = ap₂ (λ (t u : Bool). t && u) (same (λ j. j.code) (λ j. j.first)) (same (λ j. j.code) (λ j. j.second)) i;
      results = r.results;
    }
  where
    same : (f g : RawInstruction → ℤ) → eqb (length (map f r.program)) (length (map g r.program)) ≡ true
    same f g =
        eq-eqb (length (map f r.program)) (length (map g r.program))
        (length-map r.program f ∙ sym (length-map r.program g))

-- ---- reading back what was packed

-- what was packed
record PackedFront (given : RawFormula) (old new : List ℕ) (n : ℕ) : Type 0 where
  bytes : List ℕ
  packed : pack_into (length old) given ≡ value bytes
  long : n ≡ length bytes
  front : take n new ≡ bytes

packed_first : (given : RawFormula) {old new : List ℕ} {n : ℕ} → Packs given old new (Ok n) → PackedFront given old new n
packed_first given {old} {new} {n} p = by_answer (pack_into (length old) given) refl p.says p.writes
  where
    by_answer : (a : Answer (List ℕ)) → pack_into (length old) given ≡ a → answered n ≡ packed_said a
        → new ≡ over (packed_front a) old → PackedFront given old new n
    by_answer (value s) u e w =
        record { bytes = s; packed = u; long = ap first_said e; front = ap (take n) w ∙ over_front s old (sym (ap first_said e)) }
    by_answer (refused k) u e w = absurd (never_both e)

pub packed_bytes_few : {given : RawFormula} {old new : List ℕ} {n : ℕ} → Packs given old new (Ok n) → n ≤ 4248
packed_bytes_few {given} {old} p =
    let q = packed_first given p in
    let w = pack_into_written (length old) given q.packed in
    omega (arith, q.long, ap length w.is, packed_few w.holds w.accepted.well_formed)

-- "Reading what it wrote gives the same list back"
pub read_what_was_packed : {F m : ℤ} {p : Parts} {old new : List ℕ} {n : ℕ} → Packs (handed F m p) old new (Ok n)
    → {lent got : Parts} {a : Answer Header} → has_places (formula_of (handed F m p)).header lent ≡ true
    → Unpacks (take n new) lent got a → ReadBack F m p lent got a
unfolding unpack_into
read_what_was_packed {F} {m} {p} {old} {new} {n} packs {lent} {got} {a} room reads =
    let given = handed F m p in
    let q = packed_first given packs in
    let w = pack_into_written (length old) given q.packed in
    let f = w.holds in
    let back : formula (take n new) ≡ value f = ap formula q.front ∙ w.reads_back in
    let same = w.accepted.same in
    let is : formula_of given ≡ f = sym (ap formula_of same ∙ own_formula_of given) ∙ formula_again f w.accepted.well_formed in
    let into : unpack_into lent (take n new) ≡ value (own_formula given) =
    ap (λ b. then b (λ g. cond (has_places g.header lent) (value (raw_formula g)) (refused 10))) back
    ∙ ap (λ (t : Bool). cond t (value (raw_formula f)) (refused 10)) (ap (λ g. has_places g.header lent) (sym is) ∙ room)
    ∙ ap value same in
    let b = both (eqb (length p.codes) (length p.firsts)) (eqb (length p.codes) (length p.seconds)) (sym (ap (λ r. r.as_long) same)) in
    let e = eqb-true (length p.codes) (length p.firsts) b.0 in
    let g = eqb-true (length p.codes) (length p.seconds) b.1 in
    record {
      header = reads.says ∙ ap unpacked_header into ∙ ap (λ x. value x.header) (own_formula_of given);
      scale = ap (λ r. r.scale) (ap raw_formula is ∙ same);
      inputs = ap (λ r. r.inputs) (ap raw_formula is ∙ same);
      codes =
          reads.writes_codes ∙ ap (λ x. over (unpacked_front x).codes lent.codes) into
          ∙ ap (λ l. over l lent.codes) (codes_own p.codes p.firsts p.seconds e g);
      firsts =
          reads.writes_firsts ∙ ap (λ x. over (unpacked_front x).firsts lent.firsts) into
          ∙ ap (λ l. over l lent.firsts) (firsts_own p.codes p.firsts p.seconds e g);
      seconds =
          reads.writes_seconds ∙ ap (λ x. over (unpacked_front x).seconds lent.seconds) into
          ∙ ap (λ l. over l lent.seconds) (seconds_own p.codes p.firsts p.seconds e);
      outputs = reads.writes_outputs ∙ ap (λ x. over (unpacked_front x).outputs lent.outputs) into;
    }

-- ---- packing what was read

-- what was read
record WasRead (s : List ℕ) (lent : Parts) (h : Header) : Type 0 where
  holds : Formula
  means : formula s ≡ value holds
  read : unpack_into lent s ≡ value (raw_formula holds)
  header_is : h ≡ (formula_of (raw_formula holds)).header

was_read : (s : List ℕ) (lent : Parts) {h : Header} → value h ≡ unpacked_header (unpack_into lent s) → WasRead s lent h
unfolding unpack_into
was_read s lent {h} e =
    let a = first_of (unpack_into lent s) (λ r. value (formula_of r).header) (sym e) in
    let b = first_of (formula s) (λ f. cond (has_places f.header lent) (value (raw_formula f)) (refused 10)) a.was in
    let r = by_room b.first (has_places b.first.header lent) b.then_was in
    record {
      holds = b.first;
      means = b.was;
      read = a.was ∙ ap value (sym r);
      header_is = sym (same_value a.then_was) ∙ ap (λ x. (formula_of x).header) (sym r);
    }
  where
    by_room : (f : Formula) {r : RawFormula} (t : Bool) → cond {A = Answer RawFormula} t (value (raw_formula f)) (refused 10) ≡ value r → raw_formula f ≡ r
    by_room f true v = same_value v
    by_room f false v = absurd (no_value v)

pub read_limits : {s : List ℕ} {lent got : Parts} {h : Header} → Unpacks s lent got (value h) → InLimits h
read_limits {s} {lent} reads =
    let w = was_read s lent reads.says in
    let formed = accepted_well_formed s w.means in
    subst InLimits (sym (w.header_is ∙ ap (λ g. g.header) (formula_again w.holds formed))) formed.limits

-- "and writing what the reader read gives the same bytes"
pub packed_what_was_read : {s : List ℕ} {lent got : Parts} {h : Header} → AreBytes s → Unpacks s lent got (value h)
    → {old new : List ℕ} {r : Reply} → length s ≤ length old
    → Packs (handed (pos h.scale) (pos h.inputs) (fronts h got)) old new r
    → (r ≡ Ok (length s)) × (new ≡ over s old)
unfolding pack_into
packed_what_was_read {s} {lent} {got} {h} bytes reads {old} {new} {r} room packs =
    let w = was_read s lent reads.says in
    let f = w.holds in
    let given = raw_formula f in
    let again : handed (pos h.scale) (pos h.inputs) (fronts h got) ≡ given =
    ap₂ (λ (k : Header) (q : Parts). handed (pos k.scale) (pos k.inputs) q) w.header_is (front_is w) ∙ handed_parts _ _ given in
    let into : pack_into (length old) (handed (pos h.scale) (pos h.inputs) (fronts h got)) ≡ value s =
    ap (pack_into (length old)) again
    ∙ ap (λ b. then b (λ g. cond (leb (length (packed_bytes g)) (length old)) (value (packed_bytes g)) (refused 10)))
    (pack_well_formed f (accepted_well_formed s w.means))
    ∙ ap (λ l. cond (leb (length l) (length old)) (value l) (refused 10)) (packed_read s bytes w.means)
    ∙ ap (λ (t : Bool). cond t (value s) (refused 10)) (le-leb (length s) (length old) room) in
    (one_reply r (Ok (length s)) (packs.says ∙ ap packed_said into), packs.writes ∙ ap (λ b. over (packed_front b) old) into)
  where
    front_is : (w : WasRead s lent h) → fronts h got ≡ parts_of (raw_formula w.holds)
    front_is w =
        let given = raw_formula w.holds in
        let many = ap (λ (k : Header). k.instructions) w.header_is in
        λ i. record {
          codes = (ap (take h.instructions) (reads.writes_codes ∙ ap (λ x. over (unpacked_front x).codes lent.codes) w.read) ∙ over_front (parts_of given).codes lent.codes (length-map given.program (λ j. j.code) ∙ sym many)) i;
          firsts = (ap (take h.instructions) (reads.writes_firsts ∙ ap (λ x. over (unpacked_front x).firsts lent.firsts) w.read) ∙ over_front (parts_of given).firsts lent.firsts (length-map given.program (λ j. j.first) ∙ sym many)) i;
          seconds = (ap (take h.instructions) (reads.writes_seconds ∙ ap (λ x. over (unpacked_front x).seconds lent.seconds) w.read) ∙ over_front (parts_of given).seconds lent.seconds (length-map given.program (λ j. j.second) ∙ sym many)) i;
          outputs = (ap (take h.outputs) (reads.writes_outputs ∙ ap (λ x. over (unpacked_front x).outputs lent.outputs) w.read) ∙ over_front given.results lent.outputs (sym (ap (λ (k : Header). k.outputs) w.header_is))) i;
        }
