-- What is known of the words of variables where a piece of straight code begins: that a word is at most so much, and that it is a multiple of
-- four. A test that cannot fail by that is left out, and of two ways the one that is sure to be taken is written alone.
use Rattle.std.specs.Prelude.{ℕ, Bool, true, false, ◌&&◌, ◌||◌, nat_le, nat_lt, List, [], ◌∷◌, ◌++◌, length, drop, Option, Some, None, is_some, ◌==◌, ◌+◌, ◌*◌, ◌%◌, ◌^◌, if◌then◌else◌}
use Rattle.sem_words.specs.Words.{word_of}
use Rattle.wasm2js_translation.specs.Names.{Name, same_name}
use Rattle.wasm2js_translation.specs.Words.{conjunction, disjunction, exclusion, shift_left, Term, read, number, both, sum, product, compare, choose, Summands, no_more, further, Simple, put, guard, Action, simply, either}
use Rattle.wasm2js_translation.specs.Pairs.{simples}
use Rattle.wasm2js_translation.specs.Delays.{is_operand, changes, one_changes}

-- the word is at most this, if something is known of that; and it is known to be a multiple of four
pub record Fact : Type 0 where
  pub most : Option ℕ
  pub by_four : Bool

abbrev pub nothing_known : Fact
nothing_known = record { most = None; by_four = false }

-- of a variable
pub record Known : Type 0 where
  pub name : Name
  pub fact : Fact

-- of so many variables at most
abbrev pub most_known : ℕ
most_known = 16

abbrev pub fact_of : List Known → Name → Fact
fact_of [] n = nothing_known
fact_of (k ∷ ks) n = if same_name k.name n then k.fact else fact_of ks n

-- ---- bounds

-- of a word
abbrev pub capped : ℕ → Option ℕ
capped m = if nat_lt m (2 ^ 32) then Some m else None

-- the lesser of two bounds of one word
abbrev pub lesser : Option ℕ → Option ℕ → Option ℕ
lesser None b = b
lesser a None = a
lesser (Some m) (Some n) = Some (if nat_le m n then m else n)

-- a bound of either of two words
abbrev pub greater_of : Option ℕ → Option ℕ → Option ℕ
greater_of (Some m) (Some n) = Some (if nat_le m n then n else m)
greater_of a b = None

abbrev pub added_bounds : Option ℕ → Option ℕ → Option ℕ
added_bounds (Some m) (Some n) = capped (m + n)
added_bounds a b = None

abbrev pub product_bound : Option ℕ → Option ℕ → Option ℕ
product_bound (Some m) (Some n) = capped (m * n)
product_bound a b = None

-- of a word by so many places to the left
abbrev pub shifted_bound : Option ℕ → (count : ℕ) → Option ℕ
shifted_bound None count = None
shifted_bound (Some m) count = capped (m * 2 ^ count)

abbrev pub is_within : Option ℕ → (most : ℕ) → Bool
is_within None most = false
is_within (Some m) most = nat_le m most

-- ---- terms: a count of a shift counts modulo 32

module _ (ks : List Known) where
  abbrev mutual
    pub by_four : Term → Bool
    by_four (read n) = (fact_of ks n).by_four
    by_four (number z) = word_of 32 z % 4 == 0
    by_four (both conjunction a b) = by_four a || by_four b
    by_four (both disjunction a b) = by_four a && by_four b
    by_four (both exclusion a b) = by_four a && by_four b
    by_four (both shift_left a (number z)) = by_four a || nat_le 2 (word_of 32 z % 32)
    by_four (sum a ts) = by_four a && all_by_four ts
    by_four (product a b) = by_four a || by_four b
    by_four (choose t a b) = by_four a && by_four b
    by_four t = false

    pub all_by_four : Summands → Bool
    all_by_four no_more = true
    all_by_four (further minus t ts) = by_four t && all_by_four ts

  -- a multiple of four has no bit of a number below four
  abbrev pub are_disjoint : Term → Option ℕ → Bool
  are_disjoint a most = by_four a && is_within most 3

  abbrev mutual
    pub bound : Term → Option ℕ
    bound (read n) = (fact_of ks n).most
    bound (number z) = Some (word_of 32 z)
    bound (both conjunction a b) = if are_disjoint a (bound b) || are_disjoint b (bound a) then Some 0 else lesser (bound a) (bound b)
    bound (both shift_left a (number z)) = shifted_bound (bound a) (word_of 32 z % 32)
    bound (sum a ts) = sum_bound (bound a) ts
    bound (product a b) = product_bound (bound a) (bound b)
    bound (compare signed r a b) = Some 1
    bound (choose t a b) = greater_of (bound a) (bound b)
    bound t = None

    -- with what was summed before
    pub sum_bound : Option ℕ → Summands → Option ℕ
    sum_bound m no_more = m
    sum_bound m (further false t ts) = sum_bound (added_bounds m (bound t)) ts
    sum_bound m (further true t ts) = None

  abbrev pub term_fact : Term → Fact
  term_fact t = record { most = bound t; by_four = by_four t }

-- ---- what is known after a step

-- of variables that stay as they are
abbrev pub unchanged : (Name → Bool) → List Known → List Known
unchanged changed [] = []
unchanged changed (k ∷ ks) = if changed k.name then unchanged changed ks else k ∷ unchanged changed ks

-- where a block begins: what waits is written before it, so this holds of variables that are no operands'
abbrev pub into_block : List Known → List Known
into_block ks = unchanged is_operand ks

abbrev pub says_something : Fact → Bool
says_something f = is_some f.most || f.by_four

-- the oldest makes room
abbrev pub noted : Name → Fact → List Known → List Known
noted n f ks = if says_something f then (if nat_lt (length ks) most_known then ks else drop 1 ks) ++ record { name = n; fact = f } ∷ [] else ks

abbrev pub learned : List Known → Simple → List Known
learned ks (put n t) = noted n (term_fact ks t) (unchanged (same_name n) ks)
learned ks (guard (read n) most kind) =
    let f = fact_of ks n in noted n (record { most = lesser f.most (Some most); by_four = f.by_four }) (unchanged (same_name n) ks)
learned ks s = unchanged (changes s) ks

abbrev pub all_learned : List Known → List Simple → List Known
all_learned ks [] = ks
all_learned ks (s ∷ ss) = all_learned (learned ks s) ss

-- ---- straight code without what is needless

-- what is written, and what is known then
pub record Lean : Type 0 where
  pub now : List Action
  pub known : List Known

abbrev pub is_needless : List Known → Simple → Bool
is_needless ks (guard t most kind) = is_within (bound ks t) most
is_needless ks s = false

abbrev pub lean_action : List Known → Action → Lean
lean_action ks (simply s) = record { now = if is_needless ks s then [] else simply s ∷ []; known = learned ks s }
lean_action ks (either t first second) =
    if is_within (bound ks t) 0 then record { now = simples second; known = all_learned ks second }
    else record { now = either t first second ∷ []; known = unchanged (λ n. one_changes first n || one_changes second n) ks }

abbrev pub lean : List Known → List Action → Lean
lean ks [] = record { now = []; known = ks }
lean ks (a ∷ more) =
    let x = lean_action ks a in let y = lean x.known more in
    record { now = x.now ++ y.now; known = y.known }
