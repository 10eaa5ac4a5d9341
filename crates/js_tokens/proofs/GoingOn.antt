-- Reading on from where a loop stands.
use Rattle.std.proofs.Common.{◌≡◌, ℕ, ◌+◌, ◌<◌, ◌≤◌, Bool, false, ◌||◌, List, [], ◌∷◌, ◌++◌, length, take, drop, Result, Ok, Err, refl, sym, ap, subst, append_assoc, arith, length-drop}
use Rattle.std.proofs.lemmas.List.{append-nil}
use Rattle.std.specs.Prelude.{IfOk, IfErr}
use Rattle.std.specs.List.{list_any}
use Rattle.std.specs.Global.{Vec}
use Rattle.asm_lang_tokens.specs.Bytes.{is_line_end}
use Rattle.asm_lang_tokens.specs.Forms.{Kind}
use Rattle.asm_lang_tokens.specs.Text.{Fault, gap, token, fault, front_of, PlacedToken, Reading, with_first, Reads, the_end, a_fault, a_gap, a_token, IsReading, OfTokens}
use Rattle.asm_lang_tokens.proofs.Readings.{same_reading}
use Rattle.js_tokens.specs.declared.token.Token.{Token}
use Rattle.js_tokens.specs.declared.fault.TokenFault.{TokenFault}
use Rattle.js_tokens.specs.declared.fault.TokenFault.TheVariants as faults
use Rattle.js_tokens.specs.declared.front.Flaw.{Flaw}
use Rattle.js_tokens.specs.declared.scanner.Scanner.{Scanner}
use Rattle.js_tokens.specs.declared.scanner.Next.TheVariants as nexts
use Rattle.js_tokens.specs.Left.{IsLeft, IsFirstFault, IsNext}
use Rattle.js_tokens.specs.Views.{placed_token, placed_tokens, IsFault, Tells}
use Rattle.js_tokens.specs.Scan.{flaw_view, IsFlaw}

-- ---- from a token to the next

-- what the text from here on is, was left when the call began: gaps alone lie between
pub record Passed (s : Scanner) (at : ℕ) (line : Bool) (rest : List ℕ) : Type 0 where
  pub place : at + length rest ≡ s.at + length s.rest.now
  pub shorter : length rest ≤ length s.rest.now
  pub reads : (r : Reading) → Reads at line rest r → IsLeft s r

pub nothing_passed : (s : Scanner) → Passed s s.at false s.rest.now
nothing_passed s = record { place = refl; shorter = omega arith; reads = λ r h. h }

gap_of : (at n : ℕ) (line : Bool) (xs : List ℕ) (r : Reading) → 0 < length xs → gap n ≡ front_of xs → Reads (at + n) (line || list_any is_line_end (take n xs)) (drop n xs) r → Reads at line xs r
gap_of at n line [] r lt e h = absurd (omega arith)
gap_of at n line (b ∷ bs) r lt e h = a_gap (sym e) h

token_of : (at n : ℕ) (line : Bool) (k : Kind) (xs : List ℕ) (r : Reading) → 0 < length xs → token k n ≡ front_of xs → Reads (at + n) false (drop n xs) r
    → Reads at line xs (with_first (record { kind = k; text = take n xs; at = at; line_before = line }) r)
token_of at n line k [] r lt e h = absurd (omega arith)
token_of at n line k (b ∷ bs) r lt e h = a_token (sym e) h

pub after_gap : (s : Scanner) (at n : ℕ) (line : Bool) (rest : List ℕ) → Passed s at line rest → 0 < length rest → n ≤ length rest → gap n ≡ front_of rest
    → Passed s (at + n) (line || list_any is_line_end (take n rest)) (drop n rest)
after_gap s at n line rest p lt le e = record {
  place = omega (arith, p.place, length-drop n rest);
  shorter = omega (arith, p.shorter, length-drop n rest);
  reads = λ r h. p.reads r (gap_of at n line rest r lt e h);
}

pub at_token : (s : Scanner) (at n : ℕ) (line : Bool) (k : Kind) (rest : List ℕ) → Passed s at line rest → 0 < length rest → token k n ≡ front_of rest
    → (r : Reading) → Reads (at + n) false (drop n rest) r → IsLeft s (with_first (record { kind = k; text = take n rest; at = at; line_before = line }) r)
at_token s at n line k rest p lt e r h = p.reads (with_first (record { kind = k; text = take n rest; at = at; line_before = line }) r) (token_of at n line k rest r lt e h)

fault_of : (at n : ℕ) (line : Bool) (f : Fault) (xs : List ℕ) → 0 < length xs → fault f n ≡ front_of xs → Reads at line xs (Err (record { fault = f; at = at + n }))
fault_of at n line f [] lt e = absurd (omega arith)
fault_of at n line f (b ∷ bs) lt e = a_fault (sym e)

abbrev FaultLeft : Scanner → Fault → ℕ → Type 0
FaultLeft s f at = IsLeft s (Err (record { fault = f; at = at }))

has_fault : (s : Scanner) (e : TokenFault) (flaw : Flaw) (at : ℕ) → IsFlaw e flaw at → FaultLeft s (flaw_view flaw) at → IsFirstFault s e
has_fault s (faults.NonAscii p) flaw at is h = subst (λ (f : Fault). FaultLeft s f p) is.0 (subst (FaultLeft s (flaw_view flaw)) (sym is.1) h)
has_fault s (faults.BadToken p) flaw at is h = subst (λ (f : Fault). FaultLeft s f p) is.0 (subst (FaultLeft s (flaw_view flaw)) (sym is.1) h)
has_fault s (faults.OpenComment p) flaw at is h = subst (λ (f : Fault). FaultLeft s f p) is.0 (subst (FaultLeft s (flaw_view flaw)) (sym is.1) h)
has_fault s (faults.LiteralForm p) flaw at is h = subst (λ (f : Fault). FaultLeft s f p) is.0 (subst (FaultLeft s (flaw_view flaw)) (sym is.1) h)
has_fault s faults.Memory flaw at is h = absurd is

pub at_flaw : (s : Scanner) (at n : ℕ) (line : Bool) (flaw : Flaw) (rest : List ℕ) (e : TokenFault) → Passed s at line rest → 0 < length rest → fault (flaw_view flaw) n ≡ front_of rest → IsFlaw e flaw (at + n) → IsFirstFault s e
at_flaw s at n line flaw rest e p lt h is = has_fault s e flaw (at + n) is (p.reads (Err (record { fault = flaw_view flaw; at = at + n })) (fault_of at n line (flaw_view flaw) rest lt h))

pub at_the_end : (s : Scanner) (at : ℕ) (line : Bool) (rest : List ℕ) → Passed s at line rest → length rest ≡ 0 → IsLeft s (Ok [])
at_the_end s at line [] p e = p.reads (Ok []) the_end
at_the_end s at line (b ∷ bs) p e = absurd (omega arith)

-- ---- from one end of the text to the other

abbrev pub with_front : List PlacedToken → Reading → Reading
with_front ts (Ok us) = Ok (ts ++ us)
with_front ts (Err f) = Err f

front_of_none : (r : Reading) → with_front [] r ≡ r
front_of_none (Ok ts) = refl
front_of_none (Err f) = refl

front_more : (ts : List PlacedToken) (t : PlacedToken) (r : Reading) → with_front ts (with_first t r) ≡ with_front (ts ++ t ∷ []) r
front_more ts t (Ok us) = ap (λ (x : List PlacedToken). let y : Reading = Ok x in y) (sym (append_assoc ts (t ∷ []) us))
front_more ts t (Err f) = refl

-- what is left now, was left then, with the tokens so far before it
abbrev pub GoesOn : (Reading → Type 0) → List PlacedToken → Scanner → Type 0
GoesOn Then so_far s = (r : Reading) → IsLeft s r → Then (with_front so_far r)

pub begins : (Then : Reading → Type 0) (s : Scanner) → ((r : Reading) → IsLeft s r → Then r) → GoesOn Then [] s
begins Then s h r left = subst Then (sym (front_of_none r)) (h r left)

pub one_more : (Then : Reading → Type 0) (so_far : List PlacedToken) (t : Token) (s n : Scanner) → GoesOn Then so_far s → IsNext (nexts.Token t) s n → GoesOn Then (so_far ++ placed_token t ∷ []) n
one_more Then so_far t s n g next r left = subst Then (front_more so_far (placed_token t) r) (g (with_first (placed_token t) r) (next.1 r left))

pub all_found : (Then : Reading → Type 0) (so_far : List PlacedToken) (s : Scanner) → GoesOn Then so_far s → IsLeft s (Ok []) → Then (Ok so_far)
all_found Then so_far s g left = subst (λ (ts : List PlacedToken). Then (Ok ts)) (append-nil so_far) (g (Ok []) left)

pub fault_left : (s0 : Scanner) (so_far : List PlacedToken) (s : Scanner) (e : TokenFault) → GoesOn (IsLeft s0) so_far s → IsFirstFault s e → IsFirstFault s0 e
fault_left s0 so_far s (faults.NonAscii at) g h = g _ h
fault_left s0 so_far s (faults.BadToken at) g h = g _ h
fault_left s0 so_far s (faults.OpenComment at) g h = g _ h
fault_left s0 so_far s (faults.LiteralForm at) g h = g _ h
fault_left s0 so_far s faults.Memory g h = absurd h

pub fault_in : (source : List ℕ) (so_far : List PlacedToken) (s : Scanner) (e : TokenFault) → GoesOn (IsReading source) so_far s → IsFirstFault s e → IsFault source e
fault_in source so_far s (faults.NonAscii at) g h = g _ h
fault_in source so_far s (faults.BadToken at) g h = g _ h
fault_in source so_far s (faults.OpenComment at) g h = g _ h
fault_in source so_far s (faults.LiteralForm at) g h = g _ h
fault_in source so_far s faults.Memory g h = absurd h

pub begins_whole : (source : List ℕ) (s : Scanner) → s.at ≡ 0 → s.rest.now ≡ source → GoesOn (IsReading source) [] s
begins_whole source s at is = begins (IsReading source) s (λ r left. subst (λ (bs : List ℕ). Reads 0 false bs r) is (subst (λ (n : ℕ). Reads n false s.rest.now r) at left))

-- ---- what the answer says

pub tells : (source : List ℕ) (result : Result (Vec Token) TokenFault) (r : Reading) → IfOk result (λ v. IsReading source (Ok (placed_tokens v.items))) → IfErr result (λ e. IsFault source e) → IsReading source r → Tells r result
tells source (Ok v) r found wrong h = same_reading h found
tells source (Err (faults.NonAscii at)) r found wrong h = same_reading h wrong
tells source (Err (faults.BadToken at)) r found wrong h = same_reading h wrong
tells source (Err (faults.OpenComment at)) r found wrong h = same_reading h wrong
tells source (Err (faults.LiteralForm at)) r found wrong h = same_reading h wrong
tells source (Err faults.Memory) r found wrong h = tt

pub of_found : (source : List ℕ) (P : List PlacedToken → Type 0) (result : Result (Vec Token) TokenFault) → ((r : Reading) → IsReading source r → OfTokens P r) → IfOk result (λ v. IsReading source (Ok (placed_tokens v.items))) → IfOk result (λ v. P (placed_tokens v.items))
of_found source P (Ok v) law h = law (Ok (placed_tokens v.items)) h
of_found source P (Err e) law h = tt
