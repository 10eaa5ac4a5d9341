-- Pieces of which each may stand after the one before it.
use Rattle.std.proofs.Common.{◌≡◌, ℕ, Bool, true, false, cond, ltb, List, [], ◌∷◌, ◌++◌, codes, refl, sym, ap, subst, ◌∙◌}
use Rattle.std.proofs.lemmas.Bool.{both_ways, or_parts}
use Rattle.asm_lang_tokens.specs.Forms.{is_token, kind_of, is_punctuator}
use Rattle.asm_lang_tokens.specs.Text.{is_numeric, runs_on}
use Rattle.asm_lang.specs.Printing.{Piece, word, line_feed, between, at_level}
use Rattle.asm_laws_print.proofs.FrontTokens.{begins_slash, goes_on_comment, Follows}

-- the pieces after a token, or after nothing
abbrev pub Neat : List ℕ → List Piece → Type 0
Neat a [] = Unit {0}
Neat a (word w ∷ ps) = (is_token w ≡ true) × Follows a w × Neat w ps
Neat a (line_feed ∷ ps) = Neat [] ps

-- the last token
abbrev pub last_of : List ℕ → List Piece → List ℕ
last_of a [] = a
last_of a (word w ∷ ps) = last_of w ps
last_of a (line_feed ∷ ps) = last_of [] ps

last_append : (a : List ℕ) (ps qs : List Piece) → last_of a (ps ++ qs) ≡ last_of (last_of a ps) qs
last_append a [] qs = refl
last_append a (word w ∷ ps) qs = last_append w ps qs
last_append a (line_feed ∷ ps) qs = last_append [] ps qs

neat_append : (a : List ℕ) (ps qs : List Piece) → Neat a ps → Neat (last_of a ps) qs → Neat a (ps ++ qs)
neat_append a [] qs h k = k
neat_append a (word w ∷ ps) qs h k = (h.0, h.1, neat_append w ps qs h.2 k)
neat_append a (line_feed ∷ ps) qs h k = neat_append [] ps qs h k

-- ---- words

abbrev pub IsNoNumber : List ℕ → Type 0
IsNoNumber w = is_numeric (kind_of w) ≡ false

abbrev pub IsNoSlash : List ℕ → Type 0
IsNoSlash w = begins_slash w ≡ false

-- neither a number nor a slash, so that any token may follow
pub record Calm (w : List ℕ) : Type 0 where
  pub number : IsNoNumber w
  pub slash : IsNoSlash w

pub calm_start : Calm []
unfolding is_punctuator
calm_start = record { number = refl; slash = refl }

pub after_calm : {a b : List ℕ} → Calm a → Follows a b
after_calm {a = a} calm = record { number = λ h. absurd (both_ways (is_numeric (kind_of a)) calm.number h); slash = λ h. absurd (both_ways (begins_slash a) calm.slash h) }

-- a token with which an operand may begin
pub record First (w : List ℕ) : Type 0 where
  pub is : is_token w ≡ true
  pub no_comment : goes_on_comment w ≡ false

pub first_no_slash : {w : List ℕ} → First w → IsNoSlash w
first_no_slash {w = []} f = refl
first_no_slash {w = b ∷ bs} f = (or_parts _ _ f.no_comment).0

after_no_number : {a b : List ℕ} → IsNoNumber a → First b → Follows a b
after_no_number {a = a} h f = record { number = λ k. absurd (both_ways (is_numeric (kind_of a)) h k); slash = λ k. f.no_comment }

-- a token that may stand after a number
pub record Sign (w : List ℕ) : Type 0 where
  pub is : is_token w ≡ true
  pub runs : runs_on w ≡ false
  pub number : IsNoNumber w

after_operand : {a b : List ℕ} → IsNoSlash a → Sign b → Follows a b
after_operand {a = a} h s = record { number = λ k. s.runs; slash = λ k. absurd (both_ways (begins_slash a) h k) }

-- ---- operands, and what follows them

-- an operand, after anything but a number
pub record Operand (ps : List Piece) : Type 0 where
  pub neat : (a : List ℕ) → IsNoNumber a → Neat a ps
  pub last : (a : List ℕ) → IsNoSlash (last_of a ps)

-- what goes on after an operand
pub record Tail (ps : List Piece) : Type 0 where
  pub neat : (a : List ℕ) → IsNoSlash a → Neat a ps
  pub last : (a : List ℕ) → IsNoSlash a → IsNoSlash (last_of a ps)

no_slash_append : (a : List ℕ) (ps qs : List Piece) → IsNoSlash (last_of (last_of a ps) qs) → IsNoSlash (last_of a (ps ++ qs))
no_slash_append a ps qs h = ap begins_slash (last_append a ps qs) ∙ h

pub empty_tail : Tail []
empty_tail = record { neat = λ a h. tt; last = λ a h. h }

pub tail_append : {ps qs : List Piece} → Tail ps → Tail qs → Tail (ps ++ qs)
tail_append {ps = ps} {qs = qs} t u = record {
  neat = λ a h. neat_append a ps qs (t.neat a h) (u.neat (last_of a ps) (t.last a h));
  last = λ a h. no_slash_append a ps qs (u.last (last_of a ps) (t.last a h));
}

pub operand_append : {ps qs : List Piece} → Operand ps → Tail qs → Operand (ps ++ qs)
operand_append {ps = ps} {qs = qs} o t = record {
  neat = λ a h. neat_append a ps qs (o.neat a h) (t.neat (last_of a ps) (o.last a));
  last = λ a. no_slash_append a ps qs (t.last (last_of a ps) (o.last a));
}

pub sign_operand : {w : List ℕ} {ps : List Piece} → Sign w → Operand ps → Tail (word w ∷ ps)
sign_operand {w = w} s o = record { neat = λ a h. (s.is, after_operand h s, o.neat w s.number); last = λ a h. o.last w }

pub sign_tail : {w : List ℕ} {ps : List Piece} → Sign w → IsNoSlash w → Tail ps → Tail (word w ∷ ps)
sign_tail {w = w} s k t = record { neat = λ a h. (s.is, after_operand h s, t.neat w k); last = λ a h. t.last w k }

pub word_tail : {w : List ℕ} {ps : List Piece} → First w → Tail ps → Operand (word w ∷ ps)
word_tail {w = w} f t = record { neat = λ a h. (f.is, after_no_number h f, t.neat w (first_no_slash f)); last = λ a. t.last w (first_no_slash f) }

pub word_operand : {w : List ℕ} {ps : List Piece} → First w → IsNoNumber w → Operand ps → Operand (word w ∷ ps)
word_operand {w = w} f k o = record { neat = λ a h. (f.is, after_no_number h f, o.neat w k); last = λ a. o.last w }

pub one_word : {w : List ℕ} → First w → Operand (word w ∷ [])
one_word f = word_tail f empty_tail

-- ---- brackets

closing_paren : Tail (word (codes ")") ∷ [])
unfolding is_punctuator
closing_paren = sign_tail (record { is = refl; runs = refl; number = refl }) refl empty_tail

closing_bracket : Tail (word (codes "]") ∷ [])
unfolding is_punctuator
closing_bracket = sign_tail (record { is = refl; runs = refl; number = refl }) refl empty_tail

opening_paren : Sign (codes "(")
unfolding is_punctuator
opening_paren = record { is = refl; runs = refl; number = refl }

opening_bracket : Sign (codes "[")
unfolding is_punctuator
opening_bracket = record { is = refl; runs = refl; number = refl }

first_paren : First (codes "(")
unfolding is_punctuator
first_paren = record { is = refl; no_comment = refl }

pub in_parens : {ps : List Piece} → Operand ps → Operand (between (codes "(") ps (codes ")"))
in_parens o = word_operand first_paren opening_paren.number (operand_append o closing_paren)

pub parens_tail : {ps : List Piece} → Operand ps → Tail (between (codes "(") ps (codes ")"))
parens_tail o = sign_operand opening_paren (operand_append o closing_paren)

pub no_arguments : Tail (word (codes "(") ∷ word (codes ")") ∷ [])
no_arguments = sign_tail opening_paren refl closing_paren

pub brackets_tail : {ps : List Piece} → Operand ps → Tail (between (codes "[") ps (codes "]"))
brackets_tail o = sign_operand opening_bracket (operand_append o closing_bracket)

pub levelled : (p level : ℕ) {ps : List Piece} → Operand ps → Operand (at_level p level ps)
levelled p level {ps = ps} o =
    let P : Bool → Type 0 = λ t. Operand (cond t (between (codes "(") ps (codes ")")) ps) in
    let both : P (ltb level p) = elim (ltb level p) as P [ true ↦ in_parens o | false ↦ o ] in
    both

-- ---- statements and declarations

-- what may stand after a calm token, and ends with one
pub record Line (ps : List Piece) : Type 0 where
  pub neat : (a : List ℕ) → Calm a → Neat a ps
  pub last : (a : List ℕ) → Calm a → Calm (last_of a ps)

pub empty_line : Line []
empty_line = record { neat = λ a h. tt; last = λ a h. h }

pub line_append : {ps qs : List Piece} → Line ps → Line qs → Line (ps ++ qs)
line_append {ps = ps} {qs = qs} l m = record {
  neat = λ a h. neat_append a ps qs (l.neat a h) (m.neat (last_of a ps) (l.last a h));
  last = λ a h. subst (λ (w : List ℕ). Calm w) (sym (last_append a ps qs)) (m.last (last_of a ps) (l.last a h));
}

pub word_line : {w : List ℕ} {ps : List Piece} → is_token w ≡ true → Calm w → Line ps → Line (word w ∷ ps)
word_line {w = w} is calm l = record { neat = λ a h. (is, after_calm h, l.neat w calm); last = λ a h. l.last w calm }

pub feed_line : {ps : List Piece} → Line ps → Line (line_feed ∷ ps)
feed_line l = record { neat = λ a h. l.neat [] calm_start; last = λ a h. l.last [] calm_start }

-- an operand and what ends it
pub operand_line : {ps : List Piece} {w : List ℕ} {qs : List Piece} → Operand ps → Sign w → IsNoSlash w → Line qs → Line (ps ++ word w ∷ qs)
operand_line {ps = ps} {w = w} {qs = qs} o s k l =
    let calm : Calm w = record { number = s.number; slash = k } in
    record {
      neat = λ a h. neat_append a ps (word w ∷ qs) (o.neat a h.number) (s.is, after_operand (o.last a) s, l.neat w calm);
      last = λ a h. subst (λ (v : List ℕ). Calm v) (sym (last_append a ps (word w ∷ qs))) (l.last w calm);
    }
