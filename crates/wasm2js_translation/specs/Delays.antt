-- Words that wait: what an instruction puts into a variable of an operand is not written where it is a number or another variable. It stands for
-- the operand until that is put anew, and is written before that other variable changes. A word of one operator on two such words waits too, but
-- only until what comes next: where that puts the operand into a variable, the word goes there at once; else it is written before.
use Rattle.std.specs.Prelude.{ℕ, Bool, true, false, not, ◌&&◌, ◌||◌, nat_lt, List, [], ◌∷◌, ◌++◌, length, Option, Some, None, slice_get, ◌-◌, ◌+◌, suc, if◌then◌else◌, ℤ}
use Rattle.wasm_lang.specs.declared.types.ValType.{ValType}
use Rattle.wasm_lang.specs.declared.types.ValType.TheVariants.{I64}
use Rattle.wasm2js_translation.specs.Names.{Name, numbered, operand_low, operand_high, fixed, spare_high, same_name}
use Rattle.wasm2js_translation.specs.Words.{Term, read, number, both, flip, sum, product, zeros, compare, choose, byte, whole, Summands, no_more, further, Simple, put, ask, tell, guard, stop, write_byte, write_whole, Action, simply, either}
use Rattle.wasm2js_translation.specs.Pairs.{simples}

-- a variable of an operand, and the word that it is to have
pub record Delayed : Type 0 where
  pub name : Name
  pub word : Term

abbrev pub is_operand : Name → Bool
is_operand (numbered operand_low d) = true
is_operand (numbered operand_high d) = true
is_operand n = false

-- a word that may wait: a number, or a variable of no operand
abbrev pub is_light : Term → Bool
is_light (number z) = true
is_light (read n) = not (is_operand n)
is_light t = false

-- a word without operators
abbrev pub is_atom : Term → Bool
is_atom (read n) = true
is_atom (number z) = true
is_atom t = false

-- a word of one operator on two words without operators
abbrev pub is_of_two : Term → Bool
is_of_two (both op a b) = is_atom a && is_atom b
is_of_two (sum a (further minus b no_more)) = is_atom a && is_atom b
is_of_two (product a b) = is_atom a && is_atom b
is_of_two (compare signed r a b) = is_atom a && is_atom b
is_of_two t = false

-- so many light words wait at most
abbrev pub most_waiting : ℕ
most_waiting = 16

-- ---- what waits, the oldest first, each variable once

abbrev pub waiting : List Delayed → Name → Option Term
waiting [] n = None
waiting (d ∷ ds) n = if same_name d.name n then Some d.word else waiting ds n

-- those that are asked for, and the others
abbrev pub those : (Delayed → Bool) → List Delayed → List Delayed
those asked [] = []
those asked (d ∷ ds) = if asked d then d ∷ those asked ds else those asked ds

abbrev pub others : (Delayed → Bool) → List Delayed → List Delayed
others asked ds = those (λ d. not (asked d)) ds

abbrev pub without : Name → List Delayed → List Delayed
without n ds = others (λ d. same_name d.name n) ds

abbrev pub written : List Delayed → List Simple
written [] = []
written (d ∷ ds) = put d.name d.word ∷ written ds

-- ---- terms in which a word that waits stands for its variable

abbrev pub word_or : Option Term → Name → Term
word_or None n = read n
word_or (Some t) n = t

abbrev pub at_hand : List Delayed → Name → Term
at_hand ds n = word_or (waiting ds n) n

abbrev pub number_in : Term → Option ℤ
number_in (number z) = Some z
number_in t = None

-- the number that waits for a variable
abbrev pub number_at : List Delayed → Name → Option ℤ
number_at ds n = number_in (at_hand ds n)

module _ (ds : List Delayed) where
  abbrev mutual
    pub replaced : Term → Term
    replaced (read n) = at_hand ds n
    replaced (number z) = number z
    replaced (both op a b) = both op (replaced a) (replaced b)
    replaced (flip a) = flip (replaced a)
    replaced (sum a ts) = sum (replaced a) (replaced_summands ts)
    replaced (product a b) = product (replaced a) (replaced b)
    replaced (zeros a) = zeros (replaced a)
    replaced (compare signed r a b) = compare signed r (replaced a) (replaced b)
    replaced (choose t a b) = choose (replaced t) (replaced a) (replaced b)
    replaced (byte signed at) = byte signed (replaced at)
    replaced (whole at) = whole (replaced at)

    pub replaced_summands : Summands → Summands
    replaced_summands no_more = no_more
    replaced_summands (further minus t ts) = further minus (replaced t) (replaced_summands ts)

  abbrev pub all_replaced : List Term → List Term
  all_replaced [] = []
  all_replaced (t ∷ ts) = replaced t ∷ all_replaced ts

  abbrev pub in_place : Simple → Simple
  in_place (put n t) = put n (replaced t)
  in_place (ask n helper ts) = ask n helper (all_replaced ts)
  in_place (tell helper ts) = tell helper (all_replaced ts)
  in_place (guard t most kind) = guard (replaced t) most kind
  in_place (stop kind) = stop kind
  in_place (write_byte at t) = write_byte (replaced at) (replaced t)
  in_place (write_whole at t) = write_whole (replaced at) (replaced t)

-- ---- what changes a variable; a helper may leave a high word in `$q`

abbrev pub puts : Simple → Name → Bool
puts (put n t) m = same_name n m
puts (ask n helper ts) m = same_name n m
puts s m = false

abbrev pub changes : Simple → Name → Bool
changes (put n t) m = same_name n m
changes (ask n helper ts) m = same_name n m || same_name (fixed spare_high) m
changes (tell helper ts) m = same_name (fixed spare_high) m
changes s m = false

abbrev pub one_changes : List Simple → Name → Bool
one_changes [] m = false
one_changes (s ∷ ss) m = changes s m || one_changes ss m

abbrev pub one_puts : List Simple → Name → Bool
one_puts [] m = false
one_puts (s ∷ ss) m = puts s m || one_puts ss m

-- it is that variable's word, and would be another one after the change
abbrev pub reads_one : (Name → Bool) → Term → Bool
reads_one changed (read n) = changed n
reads_one changed t = false

-- ---- straight code

-- what is written at once, and what waits then
pub record Late : Type 0 where
  pub now : List Action
  pub later : List Delayed

abbrev pub may_wait : List Delayed → Name → Term → Bool
may_wait ds n t = is_operand n && (is_of_two t || (is_light t && nat_lt (length ds) most_waiting))

-- what reads a variable that it changes is written before it
abbrev pub at_once : List Delayed → Simple → Late
at_once ds s =
    let spoiled = λ (d : Delayed). reads_one (changes s) d.word in
    record { now = simples (written (those spoiled ds) ++ in_place ds s ∷ []); later = others (λ d. spoiled d || puts s d.name) ds }

-- where only light words wait
abbrev pub late_among : List Delayed → Simple → Late
late_among ds (put n t) =
    if may_wait ds n (replaced ds t) then record { now = []; later = without n ds ++ record { name = n; word = replaced ds t } ∷ [] } else at_once ds (put n t)
late_among ds s = at_once ds s

-- an arm: nothing begins to wait there
abbrev pub late_arm : List Delayed → List Simple → List Simple
late_arm ds [] = []
late_arm ds (s ∷ ss) = in_place ds s ∷ late_arm (others (λ d. puts s d.name) ds) ss

abbrev pub differ : Bool → Bool → Bool
differ true b = not b
differ false b = b

-- a variable that one arm alone puts is written before both, as is what reads a variable that changes in one; so it waits in neither
abbrev pub late_either : List Delayed → Term → (first second : List Simple) → Late
late_either ds t first second =
    let spoiled = λ (d : Delayed).
    reads_one (λ m. one_changes first m || one_changes second m) d.word || differ (one_puts first d.name) (one_puts second d.name) in
    record {
      now = simples (written (those spoiled ds)) ++ either (replaced ds t) (late_arm (others spoiled ds) first) (late_arm (others spoiled ds) second) ∷ [];
      later = others (λ d. spoiled d || one_puts first d.name) ds;
    }

-- ---- the newest word, which may be one of two others

abbrev pub light : List Delayed → List Delayed
light ds = those (λ d. is_light d.word) ds

abbrev pub held : List Delayed → List Delayed
held ds = others (λ d. is_light d.word) ds

-- what is held is written, and then this is done
abbrev pub behind : List Delayed → Late → Late
behind ds l = record { now = simples (written (held ds)) ++ l.now; later = l.later }

-- the operand of the word that is held is what is put into a variable of no operand
abbrev pub takes : List Delayed → List Delayed → Simple → Bool
takes (d ∷ []) ds (put n (read m)) = same_name d.name m && (not (is_operand n) && nat_lt (length ds) most_waiting)
takes hs ds s = false

-- that variable has the word, and stands for the operand
abbrev pub taken : List Delayed → List Delayed → Simple → Late
taken (d ∷ []) ds (put n t) =
    let spoiled = λ (e : Delayed). reads_one (same_name n) e.word in
    record {
      now = simples (written (those spoiled ds) ++ put n d.word ∷ []);
      later = others spoiled ds ++ record { name = d.name; word = read n } ∷ [];
    }
taken hs ds s = late_among ds s

abbrev pub late_simple : List Delayed → Simple → Late
late_simple ds s = if takes (held ds) (light ds) s then taken (held ds) (light ds) s else behind ds (late_among (light ds) s)

abbrev pub late_action : List Delayed → Action → Late
late_action ds (simply s) = late_simple ds s
late_action ds (either t first second) = behind ds (late_either (light ds) t first second)

abbrev pub late : List Delayed → List Action → Late
late ds [] = record { now = []; later = ds }
late ds (a ∷ more) =
    let x = late_action ds a in let y = late x.later more in
    record { now = x.now ++ y.now; later = y.later }

-- ---- operands that stand: above b others, of these types, the topmost first

abbrev pub is_wide : Option ValType → Bool
is_wide (Some I64) = true
is_wide o = false

abbrev pub has_number : (b : ℕ) → List ValType → ℕ → Bool
has_number b ts d = nat_lt d (b + length ts)

abbrev pub stands : (b : ℕ) → List ValType → Name → Bool
stands b ts (numbered operand_low d) = has_number b ts d
stands b ts (numbered operand_high d) = nat_lt d b || (has_number b ts d && is_wide (slice_get ts ((b + length ts) - suc d)))
stands b ts n = false

-- what an operand that is gone was to have is never written
abbrev pub standing : (b : ℕ) → List ValType → List Delayed → List Delayed
standing b ts ds = those (λ d. stands b ts d.name) ds
