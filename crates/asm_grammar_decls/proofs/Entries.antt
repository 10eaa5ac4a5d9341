-- A text is none of the entries that are left out, so its class is the same without them.
use Rattle.std.proofs.Common.{◌≡◌, refl, sym, ap, ◌∙◌, ℕ, ◌≤◌, Bool, true, false, true≢false, cond, ◌&&◌, List, [], ◌∷◌, length, slice_index_or, if◌then◌else◌, arith}
use Rattle.std.specs.Prelude.{bytes_eq, filter}
use Rattle.asm_lang.specs.Lexemes.{Class, Entry, class_in}
use Rattle.asm_grammar_decls.specs.Tables.{begins_with, beginning_with}

pick : (t : Bool) (e : Entry) (kept rest : List Entry) (text : List ℕ) (last : Class) → (t ≡ false → bytes_eq e.spelling text ≡ false)
    → class_in kept text last ≡ class_in rest text last → class_in (cond t (e ∷ kept) kept) text last ≡ class_in (e ∷ rest) text last
pick true e kept rest text last other same = ap (λ c. if bytes_eq e.spelling text then e.class else c) same
pick false e kept rest text last other same = same ∙ ap (λ t. if t then e.class else class_in rest text last) (sym (other refl))

kept_class : (keeps : Entry → Bool) (text : List ℕ) (last : Class) → ((e : Entry) → keeps e ≡ false → bytes_eq e.spelling text ≡ false)
    → (es : List Entry) → class_in (filter keeps es) text last ≡ class_in es text last
kept_class keeps text last others [] = refl
kept_class keeps text last others (e ∷ es) = pick (keeps e) e (filter keeps es) es text last (others e) (kept_class keeps text last others es)

-- ---- by the first byte

begins_otherwise : (b : ℕ) (bs spelling : List ℕ) → begins_with b spelling ≡ false → bytes_eq spelling (b ∷ bs) ≡ false
begins_otherwise b bs [] h = refl
begins_otherwise b bs (c ∷ cs) h = ap (λ t. t && bytes_eq cs bs) h

pub beginning_class : (es : List Entry) (text : List ℕ) (d : ℕ) (last : Class) → 1 ≤ length text
    → class_in (beginning_with (slice_index_or text 0 d) es) text last ≡ class_in es text last
beginning_class es [] d last some = absurd (omega arith)
beginning_class es (b ∷ bs) d last some = kept_class (λ e. begins_with b e.spelling) (b ∷ bs) last (λ e. begins_otherwise b bs e.spelling) es

-- ---- by the length

abbrev pub is_long : List ℕ → Bool
is_long (a ∷ b ∷ bs) = true
is_long _ = false

and_false : (t : Bool) → (t && false) ≡ false
and_false true = refl
and_false false = refl

is_shorter : (a b : ℕ) (bs spelling : List ℕ) → is_long spelling ≡ false → bytes_eq spelling (a ∷ b ∷ bs) ≡ false
is_shorter a b bs [] h = refl
is_shorter a b bs (c ∷ []) h = and_false _
is_shorter a b bs (c ∷ d ∷ cs) h = absurd (true≢false h)

pub long_class : (es : List Entry) (text : List ℕ) (last : Class) → 2 ≤ length text → class_in (filter (λ e. is_long e.spelling) es) text last ≡ class_in es text last
long_class es [] last long = absurd (omega arith)
long_class es (a ∷ []) last long = absurd (omega arith)
long_class es (a ∷ b ∷ bs) last long = kept_class (λ e. is_long e.spelling) (a ∷ b ∷ bs) last (λ e. is_shorter a b bs e.spelling) es
