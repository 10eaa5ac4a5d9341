-- The text is its pieces, joined.
use Rattle.std.proofs.Common.{◌≡◌, ℕ, zero, suc, ◌+◌, ◌-◌, ◌^◌, ◌≤◌, ◌<◌, Bool, false, cond, List, [], ◌∷◌, ◌++◌, refl, sym, ap, ◌∙◌, arith, codes, append_assoc}
use Rattle.std.specs.Prelude.{decimal}
use Rattle.std.specs.List.{concat}
use Rattle.std.specs.Fmt.{digits}
use Rattle.asm_lang_tokens.specs.Forms.{is_punctuator}
use Rattle.asm_lang.specs.Modules.{one}
use Rattle.asm_lang.specs.Printing.{Piece, word, line_feed, runs_together, joined, variable_text, function_text, functions_text, exports_text}
use Rattle.gen_lang.specs.Recipe.{name_of, line_of, lines_from, recipe}
use Rattle.gen_laws.specs.Modules.{function_at, functions_from, the_view}
use Rattle.gen_laws.proofs.Words.{after_name, after_number, sign_and_name, sum_and_number, bracket_and_number}

glued : (a w : List ℕ) (ps : List Piece) → runs_together a w ≡ false → joined a (word w ∷ ps) ≡ w ++ joined w ps
glued a w ps e = ap (λ (b : Bool). cond b (32 ∷ []) [] ++ (w ++ joined w ps)) e

-- ---- a line

-- what stands in a line after `]`, after `|`, and after the second `(` before it
abbrev after_bracket : List Piece → List Piece
after_bracket tail =
    word (codes "=") ∷ word (codes "x") ∷ word (codes ";") ∷ word (codes "return") ∷ word (codes "x") ∷ word (codes "|") ∷ word (codes "0") ∷ word (codes ";") ∷ word (codes "}")
    ∷ line_feed ∷ tail

abbrev after_sum : List ℕ → List Piece → List Piece
after_sum n tail = word (codes "0") ∷ word (codes ";") ∷ word (codes "H") ∷ word (codes "[") ∷ word n ∷ word (codes "]") ∷ after_bracket tail

abbrev after_call : List ℕ → List Piece → List Piece
after_call n tail =
    word (codes "x") ∷ word (codes ")") ∷ word (codes "|") ∷ word (codes "0") ∷ word (codes ")") ∷ word (codes "+") ∷ word n ∷ word (codes "|") ∷ after_sum n tail

abbrev after_heading : List ℕ → List ℕ → List Piece → List Piece
after_heading f n tail =
    word (codes "x") ∷ word (codes ")") ∷ word (codes "{") ∷ word (codes "x") ∷ word (codes "=") ∷ word (codes "x") ∷ word (codes "|") ∷ word (codes "0") ∷ word (codes ";")
    ∷ word (codes "x") ∷ word (codes "=") ∷ word (codes "(") ∷ word f ∷ word (codes "(") ∷ after_call n tail

end_of_line : List ℕ → List ℕ
end_of_line rest = codes "]=x;return x|0;}\n" ++ rest

-- g, a function, calls f, and n is its number
module _ (g f n : List ℕ) (tail : List Piece) (g_name : runs_together (102 ∷ g) (codes "(") ≡ false) (f_opens : runs_together (codes "(") (102 ∷ f) ≡ false) (f_name : runs_together (102 ∷ f) (codes "(") ≡ false)
    (n_opens : runs_together (codes "+") n ≡ false) (n_sum : runs_together n (codes "|") ≡ false) (n_indexes : runs_together (codes "[") n ≡ false) (n_index : runs_together n (codes "]") ≡ false) where
  from_bracket : joined n (word (codes "]") ∷ after_bracket tail) ≡ codes "]=x;return x|0;}\n" ++ joined [] tail
  unfolding is_punctuator
  from_bracket = glued n (codes "]") (after_bracket tail) n_index

  from_place : joined (codes "[") (word n ∷ word (codes "]") ∷ after_bracket tail) ≡ n ++ (codes "]=x;return x|0;}\n" ++ joined [] tail)
  from_place = glued (codes "[") n (word (codes "]") ∷ after_bracket tail) n_indexes ∙ ap (λ (r : List ℕ). n ++ r) from_bracket

  from_bar : joined n (word (codes "|") ∷ after_sum n tail) ≡ codes "|0;H[" ++ (n ++ (codes "]=x;return x|0;}\n" ++ joined [] tail))
  unfolding is_punctuator
  from_bar = glued n (codes "|") (after_sum n tail) n_sum ∙ ap (λ (r : List ℕ). codes "|0;H[" ++ r) from_place

  from_term : joined (codes "+") (word n ∷ word (codes "|") ∷ after_sum n tail) ≡ n ++ (codes "|0;H[" ++ (n ++ (codes "]=x;return x|0;}\n" ++ joined [] tail)))
  from_term = glued (codes "+") n (word (codes "|") ∷ after_sum n tail) n_opens ∙ ap (λ (r : List ℕ). n ++ r) from_bar

  from_argument : joined (102 ∷ f) (word (codes "(") ∷ after_call n tail) ≡ codes "(x)|0)+" ++ (n ++ (codes "|0;H[" ++ (n ++ (codes "]=x;return x|0;}\n" ++ joined [] tail))))
  unfolding is_punctuator
  from_argument = glued (102 ∷ f) (codes "(") (after_call n tail) f_name ∙ ap (λ (r : List ℕ). codes "(x)|0)+" ++ r) from_term

  from_callee : joined (codes "(") (word (102 ∷ f) ∷ word (codes "(") ∷ after_call n tail) ≡ (102 ∷ f) ++ (codes "(x)|0)+" ++ (n ++ (codes "|0;H[" ++ (n ++ (codes "]=x;return x|0;}\n" ++ joined [] tail)))))
  from_callee = glued (codes "(") (102 ∷ f) (word (codes "(") ∷ after_call n tail) f_opens ∙ ap (λ (r : List ℕ). (102 ∷ f) ++ r) from_argument

  from_heading : joined (102 ∷ g) (word (codes "(") ∷ after_heading (102 ∷ f) n tail)
      ≡ codes "(x){x=x|0;x=(" ++ ((102 ∷ f) ++ (codes "(x)|0)+" ++ (n ++ (codes "|0;H[" ++ (n ++ (codes "]=x;return x|0;}\n" ++ joined [] tail))))))
  unfolding is_punctuator
  from_heading = glued (102 ∷ g) (codes "(") (after_heading (102 ∷ f) n tail) g_name ∙ ap (λ (r : List ℕ). codes "(x){x=x|0;x=(" ++ r) from_callee

  pub whole_line : joined [] (word (codes "function") ∷ word (102 ∷ g) ∷ word (codes "(") ∷ after_heading (102 ∷ f) n tail)
      ≡ codes "function " ++ ((102 ∷ g) ++ (codes "(x){x=x|0;x=(" ++ ((102 ∷ f) ++ (codes "(x)|0)+" ++ (n ++ (codes "|0;H[" ++ (n ++ (codes "]=x;return x|0;}\n" ++ joined [] tail))))))))
  unfolding is_punctuator
  whole_line = ap (λ (r : List ℕ). codes "function " ++ ((102 ∷ g) ++ r)) from_heading

-- ---- lines

-- parts one after another, and then the rest
abbrev and_then : List (List ℕ) → List ℕ → List ℕ
and_then [] rest = rest
and_then (x ∷ xs) rest = x ++ and_then xs rest

concat_then : (xs : List (List ℕ)) (rest : List ℕ) → concat xs ++ rest ≡ and_then xs rest
concat_then [] rest = refl
concat_then (x ∷ xs) rest = append_assoc x (concat xs) rest ∙ ap (λ (r : List ℕ). x ++ r) (concat_then xs rest)

one_line : (i : ℕ) → i < 2 ^ 64 → (tail : List Piece) → joined [] (function_text (function_at i) ++ line_feed ∷ tail) ≡ line_of i ++ joined [] tail
unfolding digits is_punctuator
one_line zero small tail = refl
one_line (suc i) small tail =
    let before : i < 2 ^ 64 = omega (arith, small) in
    whole_line (decimal (suc i)) (decimal i) (decimal (suc i)) tail (after_name (suc i) small 40 [] refl refl) (sign_and_name i) (after_name i before 40 [] refl refl)
    (sum_and_number (suc i) small) (after_number (suc i) small 124 [] refl refl) (bracket_and_number (suc i) small) (after_number (suc i) small 93 [] refl refl)
    ∙ sym (concat_then (codes "function " ∷ name_of (suc i) ∷ codes "(x){x=x|0;x=(" ∷ name_of i ∷ codes "(x)|0)+" ∷ decimal (suc i) ∷ codes "|0;H[" ∷ decimal (suc i) ∷ codes "]=x;return x|0;}\n" ∷ []) (joined [] tail))

lines_joined : (n i : ℕ) → i + n ≤ 2 ^ 63 → (tail : List Piece) → joined [] (functions_text (functions_from i n) ++ tail) ≡ lines_from i n ++ joined [] tail
lines_joined zero i few tail = refl
lines_joined (suc n) i few tail =
    ap (joined []) (append_assoc (function_text (function_at i)) (line_feed ∷ functions_text (functions_from (suc i) n)) tail)
    ∙ (one_line i (omega (arith, few)) (functions_text (functions_from (suc i) n) ++ tail)
    ∙ (ap (λ (r : List ℕ). line_of i ++ r) (lines_joined n (suc i) (omega (arith, few)) tail) ∙ sym (append_assoc (line_of i) (lines_from (suc i) n) (joined [] tail))))

-- ---- the whole text

abbrev pub ending_pieces : ℕ → List Piece
ending_pieces n = exports_text (one (name_of (n - 1))) ++ word (codes "}") ∷ line_feed ∷ []

abbrev pub recipe_pieces : ℕ → List Piece
recipe_pieces n =
    word (codes "function") ∷ word (codes "gen") ∷ word (codes "(") ∷ word (codes "stdlib") ∷ word (codes ",") ∷ word (codes "foreign") ∷ word (codes ",") ∷ word (codes "heap") ∷ word (codes ")")
    ∷ word (codes "{") ∷ word (codes "\"use asm\"") ∷ word (codes ";") ∷ (variable_text the_view ++ line_feed ∷ (functions_text (functions_from 0 n) ++ ending_pieces n))

ending_joined : (i : ℕ) → i < 2 ^ 64 → joined [] (exports_text (one (name_of i)) ++ word (codes "}") ∷ line_feed ∷ []) ≡ codes "return " ++ (name_of i ++ (codes ";}\n" ++ []))
unfolding is_punctuator
ending_joined i small = ap (λ (r : List ℕ). codes "return " ++ (name_of i ++ r)) (glued (name_of i) (codes ";") (word (codes "}") ∷ line_feed ∷ []) (after_name i small 59 [] refl refl))

pub text_joined : (n : ℕ) → n ≤ 10000 → joined [] (recipe_pieces n) ≡ recipe n
unfolding is_punctuator
text_joined n few =
    let lines = lines_joined n 0 (omega (arith, few)) (ending_pieces n) ∙ ap (λ (r : List ℕ). lines_from 0 n ++ r) (ending_joined (n - 1) (omega (arith, few))) in
    ap (λ (r : List ℕ). codes "function gen(stdlib,foreign,heap){\"use asm\";var H=new stdlib.Int32Array(heap);\n" ++ r) lines
