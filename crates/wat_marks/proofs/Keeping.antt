-- Reading a text of whose marks some are kept.
use Rattle.std.proofs.Common.{◌≡◌, ℕ, Bool, true, false, cond, List, [], ◌∷◌, ◌++◌, Option, Some, Result, Err, refl, sym, ap, ◌∙◌, subst, append-nil}
use Rattle.wat_lang.specs.Grammar.{Item, Mark, Marked, marked}
use Rattle.wat_lang.specs.Texts.{stands_outside}
use Rattle.wat_laws_grammar.specs.Machine.{feed, taken, start}
use Rattle.wat_laws_kept.specs.Heads.{heads_lead}
use Rattle.wat_laws_kept.specs.Kept.{kept, says_something}
use Rattle.wat_tokens.specs.declared.token.Token.{Token}
use Rattle.wat_tokens.specs.declared.scanner.Scanner.{Scanner}
use Rattle.wat_tokens.specs.declared.scanner.Next.TheVariants as nexts
use Rattle.wat_tokens.specs.Left.{IsNext}
use Rattle.wat_tokens.specs.Views.{class_of, token_of}
use Rattle.wat_marks.specs.declared.fault.WatFault.{WatFault}
use Rattle.wat_marks.specs.declared.marked.MarkedToken.{MarkedToken}
use Rattle.wat_marks.specs.declared.reading.MarkReader.{MarkReader}
use Rattle.wat_marks.specs.Readings.{Keeping, HasRead, IsNextMark}
use Rattle.wat_marks.specs.Views.{IsFaultOf}
use Rattle.wat_marks.proofs.Heads.{taken_leads}
use Rattle.wat_marks.proofs.Marks.{leads_kept}
use Rattle.wat_marks.proofs.SoFar.{begins, one_more}

pub keeps_start : (source : List ℕ) (s : Scanner) (is : List Item) → s.at ≡ 0 → s.rest.now ≡ source → is ≡ start → Keeping source s [] is
keeps_start source s is at whole e = record { all = []; reading = begins source s is at whole e; is_kept = refl }

kept_append : (ms ns : List Marked) → kept (ms ++ ns) ≡ kept ms ++ kept ns
kept_append [] ns = refl
kept_append (m ∷ ms) ns = by (kept_append ms ns) (says_something m.mark)
  where
    by : kept (ms ++ ns) ≡ kept ms ++ kept ns → (b : Bool) → cond b (m ∷ kept (ms ++ ns)) (kept (ms ++ ns)) ≡ cond b (m ∷ kept ms) (kept ms) ++ kept ns
    by below true = ap (λ xs. m ∷ xs) below
    by below false = below

-- a token more is read, with a mark that is kept or isn't
keeps_more : (source : List ℕ) (s n : Scanner) (t : Token) (ks js : List Marked) (is next : List Item) (m : Mark) → Keeping source s ks is → IsNext (nexts.Token t) s n
    → stands_outside (class_of t.class) ≡ false → feed is (class_of t.class) ≡ Some (taken m next) → js ≡ ks ++ kept (marked m (token_of t) ∷ []) → Keeping source n js next
keeps_more source s n t ks js is next m k after inner fed e = record {
  all = k.all ++ marked m (token_of t) ∷ [];
  reading = one_more source s n t k.all is next m k.reading after inner fed;
  is_kept = e ∙ ap (λ xs. xs ++ kept (marked m (token_of t) ∷ [])) k.is_kept ∙ sym (kept_append k.all (marked m (token_of t) ∷ []));
}

pub keeps_saying : (source : List ℕ) (s n : Scanner) (t : Token) (ks : List Marked) (is next : List Item) (m : Mark) → Keeping source s ks is → IsNext (nexts.Token t) s n
    → stands_outside (class_of t.class) ≡ false → feed is (class_of t.class) ≡ Some (taken m next) → says_something m ≡ true → Keeping source n (ks ++ marked m (token_of t) ∷ []) next
keeps_saying source s n t ks is next m k after inner fed e =
    keeps_more source s n t ks (ks ++ marked m (token_of t) ∷ []) is next m k after inner fed (ap (λ b. ks ++ cond b (marked m (token_of t) ∷ []) []) (sym e))

pub keeps_silent : (source : List ℕ) (s n : Scanner) (t : Token) (ks : List Marked) (is next : List Item) (m : Mark) → Keeping source s ks is → IsNext (nexts.Token t) s n
    → stands_outside (class_of t.class) ≡ false → feed is (class_of t.class) ≡ Some (taken m next) → says_something m ≡ false → Keeping source n ks next
keeps_silent source s n t ks is next m k after inner fed e =
    keeps_more source s n t ks ks is next m k after inner fed (sym (append-nil ks) ∙ ap (λ b. ks ++ cond b (marked m (token_of t) ∷ []) []) (sym e))

-- In no field of the marks that are kept a head stands behind an instruction.
pub keeping_leads : (source : List ℕ) (s : Scanner) (ks : List Marked) (is : List Item) → Keeping source s ks is → heads_lead false ks ≡ true
keeping_leads source s ks is k = ap (heads_lead false) k.is_kept ∙ leads_kept false k.all ∙ taken_leads k.reading.so_far k.all is k.reading.are_taken

-- ---- the reader

pub keeping_of : (source : List ℕ) (r : MarkReader) (ks : List Marked) (is : List Item) → HasRead source r ks → r.stack ≡ Some is → Keeping source r.scanner ks is
keeping_of source r ks is h e =
    let both : Some h.stack ≡ Some is = sym h.has_stack ∙ e in
    let same : h.stack ≡ is = cc in
    subst (Keeping source r.scanner ks) same h.keeping

pub reads_so_far : (source : List ℕ) (r : MarkReader) (ks : List Marked) (is : List Item) → r.source.now ≡ source → r.stack ≡ Some is → Keeping source r.scanner ks is → HasRead source r ks
reads_so_far source r ks is whole e k = record { is_source = whole; stack = is; has_stack = e; keeping = k; leads = keeping_leads source r.scanner ks is k }

pub is_refused : (source : List ℕ) (ks : List Marked) (r : MarkReader) (answer : Result (Option MarkedToken) WatFault) (e : WatFault) → answer ≡ Err e → IsFaultOf source e → IsNextMark source ks r answer
is_refused source ks r answer e is fault = subst (IsNextMark source ks r) (sym is) fault
