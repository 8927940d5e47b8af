-- What reading a part of a text leaves: the parser's own way on, the instructions of the part's tree, or the refusal.
use Rattle.std.specs.Prelude.{◌≡◌, List, [], ◌∷◌, ◌++◌, map, ℕ, suc, ◌+◌, ◌-◌, ◌≤◌, ◌<◌, length, drop}
use Rattle.std.specs.declared.option.Option.{Option}
use Rattle.std.specs.declared.option.Option.TheVariants.{None, Some}
use Rattle.std.specs.declared.result.Result.{Result}
use Rattle.std.specs.declared.result.Result.TheVariants.{Ok, Err}
use Rattle.refusals.specs.declared.Refused.{Refused}
use Rattle.refusals.specs.Places.{because}
use Rattle.refusals.specs.declared.Refusal.{Refusal}
use Rattle.refusals.specs.declared.Refusal.TheVariants as refusal
use Rattle.refusals.specs.Refusals.{refusal_number}
use Rattle.rules.specs.Numbers.{top_scale}
use Rattle.formulas.specs.declared.Instruction.{Instruction}
use Rattle.expressions.specs.Tree.{Tree}
use Rattle.expressions.specs.Kind.{Kind, opens, closes, star, plus, minus, point, digit, letter, other, kind}
use Rattle.expressions.specs.Grammar.{Level, a_sum, a_product, a_factor}
use Rattle.expressions.specs.Parser.{Place, want, have, stopped, run, factor_at, ended}
use Rattle.expressions.specs.Compiled.{compiled}
use Rattle.expression_parser.specs.declared.Begin.{Begin}
use Rattle.expression_parser.specs.declared.Begin.TheVariants as begin
use Rattle.expression_parser.specs.declared.Operands.{Operands}
use Rattle.expression_parser.specs.declared.Operands.TheVariants as operands
use Rattle.expression_parser.specs.declared.Sign.{Sign}
use Rattle.expression_parser.specs.declared.Sign.TheVariants as sign
use Rattle.expression_parser.specs.declared.Source.{Source}
use Rattle.expression_parser.specs.declared.Reached.{Reached}
use Rattle.expression_parser.specs.declared.Made.{Made}
use Rattle.expression_parser.specs.Words.{Keeps}

-- ---- bytes

-- the byte that a sign is; no other kind has one
abbrev pub byte : Kind → ℕ
byte opens = 40
byte closes = 41
byte star = 42
byte plus = 43
byte minus = 45
byte point = 46
byte (digit d) = 0
byte (letter i) = 0
byte other = 0

-- a byte that begins no other factor than a number
pub record NoOther (m b : ℕ) : Type 0 where
  pub no_opens : b ≡ byte opens → ⊥
  pub no_minus : b ≡ byte minus → ⊥
  pub no_letter : 97 ≤ b → b - 97 < m → ⊥

-- how a factor begins
abbrev pub BeginIs : ℕ → ℕ → Begin → Type 0
BeginIs m b begin.Parenthesis = b ≡ byte opens
BeginIs m b begin.Minus = b ≡ byte minus
BeginIs m b (begin.Letter i) = (97 ≤ b) × (i ≡ b - 97) × (i < m)
BeginIs m b begin.Number = NoOther m b

pub record Begins (m b : ℕ) (how : Begin) : Type 0 where
  pub is : BeginIs m b how

-- the sign that a byte is between operands, if it is one
abbrev pub SignIs : ℕ → Operands → Option Sign → Type 0
SignIs b operands.Factors None = b ≡ byte star → ⊥
SignIs b operands.Factors (Some sign.Times) = b ≡ byte star
SignIs b operands.Factors (Some sign.Plus) = ⊥
SignIs b operands.Factors (Some sign.Minus) = ⊥
SignIs b operands.Products None = (b ≡ byte plus → ⊥) × (b ≡ byte minus → ⊥)
SignIs b operands.Products (Some sign.Times) = ⊥
SignIs b operands.Products (Some sign.Plus) = b ≡ byte plus
SignIs b operands.Products (Some sign.Minus) = b ≡ byte minus

pub record SignAt (b : ℕ) (o : Operands) (g : Option Sign) : Type 0 where
  pub is : SignIs b o g

-- what each operand is, and what they are joined to
abbrev pub each_of : Operands → Level
each_of operands.Factors = a_factor
each_of operands.Products = a_product

abbrev pub whole_of : Operands → Level
whole_of operands.Factors = a_product
whole_of operands.Products = a_sum

-- ---- what may be read

-- a place in the text, with no more instructions so far than bytes before it
pub record Readable (s : Source) (from : Reached) (words : ℕ) : Type 0 where
  pub scale_small : s.scale ≤ top_scale
  pub inputs_few : s.inputs ≤ 16
  pub there : from.at ≤ length s.text.now
  pub few : from.count ≤ from.at
  pub words_few : words ≤ 512

-- ---- what a part leaves

-- a text of m letters from a place on
abbrev pub rest : ℕ → List ℕ → ℕ → List Kind
rest m s at = map (kind m) (drop at s)

-- a part was read, where n more may be open: the parser goes on behind it with its tree, whatever is open around it; its
-- instructions are kept behind those before
pub record MadeSo (l : Level) (F m n : ℕ) (s : List ℕ) (at count : ℕ) (old new : List ℕ) (r : Made) : Type 0 where
  pub tree : Tree
  pub goes : (k : Place l) → run (want n (factor_at k)) (rest m s at) ≡ run (have (ended n tree k)) (rest m s r.at)
  pub value_is : r.value ≡ (compiled F tree (m + count)).result
  pub count_is : r.count ≡ count + length (compiled F tree (m + count)).program
  pub keeps : (p : List Instruction) → length p ≡ count → Keeps p old → Keeps (p ++ (compiled F tree (m + count)).program) new
  pub long : length new ≡ length old
  pub named : r.value < m + r.count
  pub onward : at < r.at
  pub within : r.at ≤ length s
  pub few : r.count + at ≤ count + r.at

-- the parser stops at a place
pub record RefusedSo (l : Level) (m n : ℕ) (s : List ℕ) (at : ℕ) (old new : List ℕ) (r : Refusal) (p : ℕ) : Type 0 where
  pub goes : (k : Place l) → run (want n (factor_at k)) (rest m s at) ≡ stopped (refusal_number r) (rest m s p)
  pub long : length new ≡ length old
  pub within : p ≤ length s

-- what may not follow a part that was read to its end
abbrev pub Ends : Level → List Kind → Type 0
Ends a_factor cs = Unit {0}
Ends a_product [] = Unit {0}
Ends a_product (c ∷ cs) = c ≡ star → ⊥
Ends a_sum [] = Unit {0}
Ends a_sum (c ∷ cs) = (c ≡ star → ⊥) × (c ≡ plus → ⊥) × (c ≡ minus → ⊥)

pub record ReadSo (l : Level) (F m n : ℕ) (s : List ℕ) (at count : ℕ) (old new : List ℕ) (r : Made) : Type 0 where
  pub made : MadeSo l F m n s at count old new r
  pub ends : Ends l (rest m s r.at)

-- the number of a part's value, with how far it goes
abbrev pub made_at : ℕ → Reached → Made
made_at v to = record { value = v; at = to.at; count = to.count }

abbrev pub PartIs : Level → Source → Reached → List ℕ → List ℕ → Reached → Result ℕ Refused → Type 0
PartIs l s from old new to (Ok v) = ReadSo l s.scale s.inputs s.room s.text.now from.at from.count old new (made_at v to)
PartIs l s from old new to (Err e) = RefusedSo l s.inputs s.room s.text.now from.at old new e.why e.place

pub record Part (l : Level) (s : Source) (from : Reached) (old new : List ℕ) (to : Reached) (r : Result ℕ Refused) : Type 0 where
  pub is : PartIs l s from old new to r

-- ---- parentheses

-- one fewer may be open inside
abbrev pub OpensTo : Source → Reached → Reached → Result Source Refused → Type 0
OpensTo s from to (Ok t) = (s.room ≡ suc t.room) × (t ≡ record s { room = t.room }) × (to ≡ record from { at = from.at + 1 })
OpensTo s from to (Err e) = (s.room ≡ 0) × (e ≡ because refusal.TooDeep from.at)

pub record Opens (s : Source) (from to : Reached) (r : Result Source Refused) : Type 0 where
  pub is : OpensTo s from to r

abbrev pub ClosesTo : ℕ → Reached → Reached → Result (Unit {0}) Refused → Type 0
ClosesTo b from to (Ok u) = (b ≡ byte closes) × (to ≡ record from { at = from.at + 1 })
ClosesTo b from to (Err e) = (b ≡ byte closes → ⊥) × (e ≡ because refusal.Misplaced from.at)

pub record Closes (b : ℕ) (from to : Reached) (r : Result (Unit {0}) Refused) : Type 0 where
  pub is : ClosesTo b from to r
