-- Joined pieces read as tokens of these pieces.
use Rattle.std.proofs.Common.{◌≡◌, ℕ, suc, ◌+◌, Bool, true, false, ◌||◌, cond, List, [], ◌∷◌, ◌++◌, length, take, drop, Ok, refl, sym, subst}
use Rattle.std.proofs.lemmas.List.{take_at, drop_at}
use Rattle.asm_lang_tokens.specs.Forms.{is_token, is_punctuator, kind_of}
use Rattle.asm_lang_tokens.specs.Text.{PlacedToken, Reads, the_end, a_gap, a_token}
use Rattle.asm_lang.specs.Lexemes.{lexemes_of}
use Rattle.asm_lang.specs.Printing.{Piece, word, line_feed, runs_together, joined}
use Rattle.asm_laws_print.specs.Spelled.{Spells, no_piece, a_word, a_line_feed}
use Rattle.asm_laws_print.proofs.FrontTokens.{Ends, front_is, ends_nothing, ends_gap, ends_word}
use Rattle.asm_laws_print.proofs.Neat.{Neat}

-- the text reads as tokens of the pieces
pub record ReadsAs (at : ℕ) (line : Bool) (text : List ℕ) (ps : List Piece) : Type 0 where
  pub tokens : List PlacedToken
  pub reads : Reads at line text (Ok tokens)
  pub flag : Bool
  pub spells : Spells line ps flag (lexemes_of tokens) []

or_false : (t : Bool) → t ≡ (t || false)
or_false true = refl
or_false false = refl

or_true : (t : Bool) → true ≡ (t || true)
or_true true = refl
or_true false = refl

-- ---- a gap before

after_space : (at : ℕ) (line : Bool) (text : List ℕ) (ps : List Piece) → ReadsAs (at + 1) line text ps → ReadsAs at line (32 ∷ text) ps
after_space at line text ps r = record { tokens = r.tokens; reads = a_gap {n = 1} refl (subst (λ (b : Bool). Reads (at + 1) b text (Ok r.tokens)) (or_false line) r.reads); flag = r.flag; spells = r.spells }

after_line_feed : (at : ℕ) (line : Bool) (text : List ℕ) (ps : List Piece) → ReadsAs (at + 1) true text ps → ReadsAs at line (10 ∷ text) (line_feed ∷ ps)
after_line_feed at line text ps r = record { tokens = r.tokens; reads = a_gap {n = 1} refl (subst (λ (b : Bool). Reads (at + 1) b text (Ok r.tokens)) (or_true line) r.reads); flag = r.flag; spells = a_line_feed r.spells }

-- ---- a token before

after_token : (at : ℕ) (line : Bool) (b : ℕ) (bs text : List ℕ) (ps : List Piece) → is_token (b ∷ bs) ≡ true → Ends (b ∷ bs) text → ReadsAs (at + suc (length bs)) false text ps → ReadsAs at line ((b ∷ bs) ++ text) (word (b ∷ bs) ∷ ps)
after_token at line b bs text ps is ends r =
    let whole : List ℕ = (b ∷ bs) ++ text in
    let n : ℕ = suc (length bs) in
    let here : take n whole ≡ b ∷ bs = take_at (b ∷ bs) text n refl in
    let after : drop n whole ≡ text = drop_at (b ∷ bs) text n refl in
    let rest : Reads (at + n) false (drop n whole) (Ok r.tokens) = subst (λ (xs : List ℕ). Reads (at + n) false xs (Ok r.tokens)) (sym after) r.reads in
    record {
      tokens = record { kind = kind_of (b ∷ bs); text = b ∷ bs; at = at; line_before = line } ∷ r.tokens;
      reads = subst (λ (w : List ℕ). Reads at line whole (Ok (record { kind = kind_of (b ∷ bs); text = w; at = at; line_before = line } ∷ r.tokens))) here (a_token {n = n} (front_is b bs text is ends) rest);
      flag = r.flag;
      spells = a_word (record { text = refl; class = refl; value = refl; line = refl }) r.spells;
    }

-- ---- all pieces

-- what is joined to a token leaves it as it is
joined_ends : (b : ℕ) (bs : List ℕ) (ps : List Piece) → is_token (b ∷ bs) ≡ true → Neat (b ∷ bs) ps → Ends (b ∷ bs) (joined (b ∷ bs) ps)
unfolding is_punctuator
joined_ends b bs [] is neat = ends_nothing (b ∷ bs) is
joined_ends b bs (line_feed ∷ ps) is neat = ends_gap (b ∷ bs) 10 (joined [] ps) is refl
joined_ends b bs (word [] ∷ ps) is neat = let some = neat.0 in absurd cc
joined_ends b bs (word (c ∷ cs) ∷ ps) is neat =
    let after : List ℕ = (c ∷ cs) ++ joined (c ∷ cs) ps in
    let P : Bool → Type 0 = λ t. runs_together (b ∷ bs) (c ∷ cs) ≡ t → Ends (b ∷ bs) (cond t (32 ∷ []) [] ++ after) in
    let both : P (runs_together (b ∷ bs) (c ∷ cs)) = elim (runs_together (b ∷ bs) (c ∷ cs)) as P [
      | true ↦ λ e. ends_gap (b ∷ bs) 32 after is refl
      | false ↦ λ e. ends_word b bs c cs (joined (c ∷ cs) ps) is e neat.1
    ] in
    both refl

some_bytes : is_token [] ≡ true → ⊥
unfolding is_punctuator
some_bytes is = absurd cc

pub joined_read : (before : List ℕ) (ps : List Piece) → Neat before ps → (at : ℕ) (line : Bool) → ReadsAs at line (joined before ps) ps
joined_read before [] neat at line = record { tokens = []; reads = the_end; flag = line; spells = no_piece }
joined_read before (line_feed ∷ ps) neat at line = after_line_feed at line (joined [] ps) ps (joined_read [] ps neat (at + 1) true)
joined_read before (word [] ∷ ps) neat at line = absurd (some_bytes neat.0)
joined_read before (word (b ∷ bs) ∷ ps) neat at line =
    let after : List ℕ = (b ∷ bs) ++ joined (b ∷ bs) ps in
    let ends = joined_ends b bs ps neat.0 neat.2 in
    let reading : (at : ℕ) → ReadsAs at line after (word (b ∷ bs) ∷ ps) = λ at. after_token at line b bs (joined (b ∷ bs) ps) ps neat.0 ends (joined_read (b ∷ bs) ps neat.2 (at + suc (length bs)) false) in
    let P : Bool → Type 0 = λ t. ReadsAs at line (cond t (32 ∷ []) [] ++ after) (word (b ∷ bs) ∷ ps) in
    let both : P (runs_together before (b ∷ bs)) = elim (runs_together before (b ∷ bs)) as P [
      | true ↦ after_space at line after (word (b ∷ bs) ∷ ps) (reading (at + 1))
      | false ↦ reading at
    ] in
    both
