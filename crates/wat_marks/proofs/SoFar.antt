-- Reading a text token by token, and why it is refused where it stops.
use Rattle.std.proofs.Common.{◌≡◌, ℕ, true, false, List, [], ◌∷◌, ◌++◌, length, Ok, Err, Some, None, refl, sym, ap, ◌∙◌, subst, append-nil, slice_get}
use Rattle.wat_lang.specs.declared.fault.Row.TheVariants as rows
use Rattle.wat_lang.specs.Tokens as spec
use Rattle.wat_lang.specs.Tokens.{IsReading, HasTokens}
use Rattle.wat_lang.specs.Grammar.{Item, Mark, Marked, marked, Derives, IsFirstFault}
use Rattle.wat_lang.specs.Texts.{stands_outside, at_or, IsMarked, IsFault, a_bad_token, a_word_outside, a_break}
use Rattle.wat_laws_grammar.specs.Machine.{feed, taken, may_stop, run, fed, start}
use Rattle.wat_tokens.specs.declared.token.Token.{Token}
use Rattle.wat_tokens.specs.declared.scanner.Scanner.{Scanner}
use Rattle.wat_tokens.specs.declared.scanner.Next.TheVariants as nexts
use Rattle.wat_tokens.specs.Left as left
use Rattle.wat_tokens.specs.Left.{IsLeft, IsNext}
use Rattle.wat_tokens.specs.Views.{class_of, token_of}
use Rattle.wat_marks.specs.declared.fault.WatFault.{WatFault}
use Rattle.wat_marks.specs.Readings.{GoesOn, AreTaken, none_taken, one_taken, Reading}
use Rattle.wat_marks.specs.Views.{IsFaultOf, LooksBehind, fault_behind, word_behind, break_there, IsWordOrToken, first_fault, word_there}
use Rattle.wat_marks.proofs.GoingOn.{begins_whole, goes_more, front_ok, front_fault}
use Rattle.wat_marks.proofs.Words.{outside_join, outside_past, outside_here}
use Rattle.wat_marks.proofs.ReadingOn.{ReadsOn, reads_on, reads_no_more, reads_all, reads_short}

pub begins : (source : List ℕ) (s : Scanner) (is : List Item) → s.at ≡ 0 → s.rest.now ≡ source → is ≡ start → Reading source s [] is
begins source s is at whole e = subst (Reading source s []) (sym e) (record {
  so_far = [];
  goes = begins_whole source s at whole;
  inside = refl;
  are_taken = none_taken;
})

pub one_more : (source : List ℕ) (s n : Scanner) (t : Token) (ms : List Marked) (is js : List Item) (m : Mark) → Reading source s ms is → IsNext (nexts.Token t) s n
    → stands_outside (class_of t.class) ≡ false → feed is (class_of t.class) ≡ Some (taken m js) → Reading source n (ms ++ marked m (token_of t) ∷ []) js
one_more source s n t ms is js m h next inner fed = record {
  so_far = h.so_far ++ token_of t ∷ [];
  goes = goes_more source h.so_far t s n h.goes next;
  inside = outside_join h.so_far (token_of t ∷ []) h.inside ∙ outside_past (token_of t) [] inner;
  are_taken = one_taken (token_of t) h.are_taken fed;
}

-- ---- at the end

at_end : (source : List ℕ) (s : Scanner) (ts : List spec.Token) → GoesOn source ts s → IsLeft s (Ok []) → HasTokens source ts
at_end source s ts g l = subst (λ (us : List spec.Token). HasTokens source us) (append-nil ts) (subst (IsReading source) (front_ok ts []) (g (Ok []) l))

all_of : (ts : List spec.Token) (ms : List Marked) (is : List Item) → AreTaken ts ms is → ReadsOn ts ms is [] (length ts)
all_of ts ms is h = subst (λ (us : List spec.Token). ReadsOn us ms is [] (length ts)) (append-nil ts) (reads_on ts ms is h [])

pub ends_whole : (source : List ℕ) (s : Scanner) (ms : List Marked) (is : List Item) → ((js : List Item) (ns : List Marked) (us : List spec.Token) → run js us ≡ Some ns → Derives js ns us)
    → Reading source s ms is → IsLeft s (Ok []) → may_stop is ≡ true → IsMarked source ms
ends_whole source s ms is sound h l e = record {
  tokens = h.so_far;
  is_reading = at_end source s h.so_far h.goes l;
  is_inside = h.inside;
  is_grammatical = sound start ms h.so_far (reads_all h.so_far ms is (length h.so_far) (all_of h.so_far ms is h.are_taken) e);
}

none_past : (ts : List spec.Token) → slice_get ts (length ts) ≡ None
none_past [] = refl
none_past (t ∷ ts) = none_past ts

here : (ts us : List spec.Token) (t : spec.Token) → slice_get (ts ++ t ∷ us) (length ts) ≡ Some t
here [] us t = refl
here (u ∷ ts) us t = here ts us t

pub ends_short : (source : List ℕ) (s : Scanner) (ms : List Marked) (is : List Item) → ((us : List spec.Token) → run start us ≡ None → IsFirstFault us (fed start us))
    → Reading source s ms is → IsLeft s (Ok []) → may_stop is ≡ false → IsFault source rows.Grammar (length source)
ends_short source s ms is first h l e =
    let stop = reads_short h.so_far ms is (length h.so_far) (all_of h.so_far ms is h.are_taken) e in
    a_break (record {
      tokens = h.so_far;
      is_reading = at_end source s h.so_far h.goes l;
      is_inside = h.inside;
      token = fed start h.so_far;
      is_fault = first h.so_far stop.none;
      is_there = sym (ap (λ k. at_or (length source) (slice_get h.so_far k)) stop.there ∙ ap (at_or (length source)) (none_past h.so_far));
    })

-- ---- before the end

all_tokens : (source : List ℕ) (s n : Scanner) (t : Token) (so_far ts : List spec.Token) → GoesOn source so_far s → IsNext (nexts.Token t) s n → IsLeft n (Ok ts) → HasTokens source (so_far ++ token_of t ∷ ts)
all_tokens source s n t so_far ts g next l = subst (IsReading source) (front_ok so_far (token_of t ∷ ts)) (g (Ok (token_of t ∷ ts)) (next.1 (Ok ts) l))

fault_after : (source : List ℕ) (s n : Scanner) (t : Token) (so_far : List spec.Token) (k : ℕ) → GoesOn source so_far s → IsNext (nexts.Token t) s n → left.IsFirstFault n k → IsFault source rows.Token k
fault_after source s n t so_far k g next l = a_bad_token (subst (IsReading source) (front_fault so_far k) (g (Err k) (next.1 (Err k) l)))

pub fault_there : (source : List ℕ) (s : Scanner) (ms : List Marked) (is : List Item) (k : ℕ) → Reading source s ms is → left.IsFirstFault s k → IsFault source rows.Token k
fault_there source s ms is k h l = a_bad_token (subst (IsReading source) (front_fault h.so_far k) (h.goes (Err k) l))

pub breaks : (source : List ℕ) (s n : Scanner) (t : Token) (ms : List Marked) (is : List Item) (e : WatFault) → ((us : List spec.Token) → run start us ≡ None → IsFirstFault us (fed start us))
    → Reading source s ms is → IsNext (nexts.Token t) s n → stands_outside (class_of t.class) ≡ false → feed is (class_of t.class) ≡ None → LooksBehind n e t.at → IsFaultOf source e
breaks source s n t ms is e first h next inner stuck (fault_behind l) = fault_after source s n t h.so_far _ h.goes next l
breaks source s n t ms is e first h next inner stuck (word_behind {ts = ts} l o) = a_word_outside (record {
  tokens = h.so_far ++ token_of t ∷ ts;
  is_reading = all_tokens source s n t h.so_far ts h.goes next l;
  is_first = outside_join h.so_far (token_of t ∷ ts) h.inside ∙ (outside_past (token_of t) ts inner ∙ o);
})
breaks source s n t ms is e first h next inner stuck (break_there {ts = ts} l o) =
    let all = h.so_far ++ token_of t ∷ ts in
    let stop = reads_no_more all ms is (token_of t) ts (length h.so_far) (reads_on h.so_far ms is h.are_taken (token_of t ∷ ts)) stuck in
    a_break (record {
      tokens = all;
      is_reading = all_tokens source s n t h.so_far ts h.goes next l;
      is_inside = outside_join h.so_far (token_of t ∷ ts) h.inside ∙ (outside_past (token_of t) ts inner ∙ o);
      token = fed start all;
      is_fault = first all stop.none;
      is_there = sym (ap (λ k. at_or (length source) (slice_get all k)) stop.there ∙ ap (at_or (length source)) (here h.so_far ts (token_of t)));
    })

pub leaves_integers : (source : List ℕ) (s n : Scanner) (t : Token) (ms : List Marked) (is : List Item) (e : WatFault)
    → Reading source s ms is → IsNext (nexts.Token t) s n → stands_outside (class_of t.class) ≡ true → IsWordOrToken n e t.at → IsFaultOf source e
leaves_integers source s n t ms is e h next outer (first_fault l) = fault_after source s n t h.so_far _ h.goes next l
leaves_integers source s n t ms is e h next outer (word_there {ts = ts} l) = a_word_outside (record {
  tokens = h.so_far ++ token_of t ∷ ts;
  is_reading = all_tokens source s n t h.so_far ts h.goes next l;
  is_first = outside_join h.so_far (token_of t ∷ ts) h.inside ∙ outside_here (token_of t) ts outer;
})
