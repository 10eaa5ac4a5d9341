-- Where reading stands behind some tokens.
use Rattle.std.proofs.Common.{◌≡◌, ℕ, suc, ◌+◌, true, false, List, [], ◌∷◌, ◌++◌, length, drop, Option, Some, None, option_map, refl, sym, ap, ◌∙◌, subst, append_assoc, append-nil, length-append, arith, drop-drop}
use Rattle.wat_lang.specs.Tokens.{Token}
use Rattle.wat_lang.specs.Grammar.{Item, Mark, Marked, marked}
use Rattle.wat_laws_grammar.specs.Machine.{Taken, taken, feed, may_stop, if_true, run_on, run, fed_on, fed, start}
use Rattle.wat_marks.specs.Readings.{AreTaken, none_taken, one_taken}

pub record ReadsOn (ts : List Token) (ms : List Marked) (s : List Item) (rest : List Token) (i : ℕ) : Type 0 where
  pub runs : run start ts ≡ option_map (λ (ns : List Marked). ms ++ ns) (run s rest)
  pub counts : fed start ts ≡ i + fed s rest
  pub stands : rest ≡ drop i ts

same_option : (x : Option (List Marked)) → option_map (λ (ns : List Marked). [] ++ ns) x ≡ x
same_option None = refl
same_option (Some ms) = refl

pub reads_start : (ts : List Token) → ReadsOn ts [] start ts 0
reads_start ts = record { runs = sym (same_option (run start ts)); counts = (let e : fed start ts ≡ 0 + fed start ts = omega arith in e); stands = refl }

put_on : (ms : List Marked) (m : Marked) (x : Option (List Marked)) → option_map (λ (ns : List Marked). ms ++ ns) (option_map (λ (ns : List Marked). m ∷ ns) x) ≡ option_map (λ (ns : List Marked). (ms ++ m ∷ []) ++ ns) x
put_on ms m None = refl
put_on ms m (Some ns) = ap Some (sym (append_assoc ms (m ∷ []) ns))

dropped_more : (i : ℕ) (ts rest : List Token) (t : Token) → t ∷ rest ≡ drop i ts → rest ≡ drop (i + 1) ts
dropped_more i ts rest t e = ap (drop 1) e ∙ drop-drop 1 i ts

pub reads_more : (ts : List Token) (ms : List Marked) (s next : List Item) (t : Token) (rest : List Token) (i : ℕ) (m : Mark) → ReadsOn ts ms s (t ∷ rest) i → feed s t.class ≡ Some (taken m next) → ReadsOn ts (ms ++ marked m t ∷ []) next rest (i + 1)
reads_more ts ms s next t rest i m h e = record {
  runs = h.runs ∙ ap (λ (x : Option Taken). option_map (λ (ns : List Marked). ms ++ ns) (run_on t x (λ js. run js rest))) e ∙ put_on ms (marked m t) (run next rest);
  counts = h.counts ∙ ap (λ (x : Option Taken). i + fed_on x (λ js. fed js rest)) e ∙ (let q : i + suc (fed next rest) ≡ i + 1 + fed next rest = omega arith in q);
  stands = dropped_more i ts rest t h.stands;
}

-- reading goes on behind tokens that are taken
pub reads_on : (ts : List Token) (ms : List Marked) (s : List Item) → AreTaken ts ms s → (rest : List Token) → ReadsOn (ts ++ rest) ms s rest (length ts)
reads_on ts ms s none_taken rest = reads_start rest
reads_on us ns next (one_taken {ts = ts} {ms = ms} {is = s} {m = m} t h e) rest =
    subst (λ (k : ℕ). ReadsOn ((ts ++ t ∷ []) ++ rest) (ms ++ marked m t ∷ []) next rest k) (sym (length-append ts (t ∷ [])))
    (subst (λ (us : List Token). ReadsOn us (ms ++ marked m t ∷ []) next rest (length ts + 1)) (sym (append_assoc ts (t ∷ []) rest))
    (reads_more (ts ++ t ∷ rest) ms s next t rest (length ts) m (reads_on ts ms s h (t ∷ rest)) e))

pub record Stops (ts : List Token) (i : ℕ) : Type 0 where
  pub none : run start ts ≡ None
  pub there : fed start ts ≡ i

pub reads_no_more : (ts : List Token) (ms : List Marked) (s : List Item) (t : Token) (rest : List Token) (i : ℕ) → ReadsOn ts ms s (t ∷ rest) i → feed s t.class ≡ None → Stops ts i
reads_no_more ts ms s t rest i h e = record {
  none = h.runs ∙ ap (λ (x : Option Taken). option_map (λ (ns : List Marked). ms ++ ns) (run_on t x (λ js. run js rest))) e;
  there = h.counts ∙ ap (λ (x : Option Taken). i + fed_on x (λ js. fed js rest)) e ∙ (let q : i + 0 ≡ i = omega arith in q);
}

pub reads_all : (ts : List Token) (ms : List Marked) (s : List Item) (i : ℕ) → ReadsOn ts ms s [] i → may_stop s ≡ true → run start ts ≡ Some ms
reads_all ts ms s i h e = h.runs ∙ ap (λ b. option_map (λ (ns : List Marked). ms ++ ns) (if_true (Some []) b)) e ∙ ap Some (append-nil ms)

pub reads_short : (ts : List Token) (ms : List Marked) (s : List Item) (i : ℕ) → ReadsOn ts ms s [] i → may_stop s ≡ false → Stops ts i
reads_short ts ms s i h e = record {
  none = h.runs ∙ ap (λ b. option_map (λ (ns : List Marked). ms ++ ns) (if_true (Some []) b)) e;
  there = h.counts ∙ (let q : i + 0 ≡ i = omega arith in q);
}
