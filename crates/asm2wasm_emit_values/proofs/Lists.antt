-- The code of lists of expressions, one item after another.
use Rattle.std.proofs.Common.{◌≡◌, ℕ, ◌+◌, ◌<◌, ◌≤◌, true, false, List, [], ◌∷◌, ◌++◌, length, drop, get_or, refl, sym, ap, subst, ◌∙◌, append_assoc, append-nil, length-drop, arith}
use Rattle.std.proofs.lemmas.List.{at_drop_more, at_drop_all}
use Rattle.wasm_lang.specs.Instructions.{Instruction, bin32}
use Rattle.wasm_lang_exec.specs.Code.{Trees, ε, ◌⊕◌}
use Rattle.wasm_laws_trees.specs.Spelled.{flat}
use Rattle.wasm_laws_trees.proofs.Joined.{flat_joins}
use Rattle.wasm_laws_write.specs.Lengths.{IsNarrow}
use Rattle.wasm_laws_write.specs.Each.{EachIn}
use Rattle.asm_tree.specs.declared.tree.Expr.{Expr as CodeExpr}
use Rattle.asm_tree.specs.declared.tree.Link.{Link as CodeLink}
use Rattle.asm_tree.specs.Views.{LinkView, expr_view, exprs_view, links_view}
use Rattle.asm_tree.proofs.Views.{link_view-is}
use Rattle.asm_lang_valid.specs.Typing.{Scope}
use Rattle.asm2wasm_translation.specs.Values.{one, link_operator, expr_code, arguments_code, links_code, comma_code}
use Rattle.asm2wasm_emit_pieces.proofs.Parts.{first_part, second_part}

-- ---- what a pass over items keeps

module _ (o a b : List Instruction) (all rest here left : Trees) where
  -- what was given, and the code of what is left, are the code of all
  pub one_more : a ++ flat rest ≡ o ++ flat all → rest ≡ here ⊕ left → b ≡ a ++ flat here → b ++ flat left ≡ o ++ flat all
  one_more h is k = ap (λ l. l ++ flat left) k ∙ append_assoc a (flat here) (flat left) ∙ ap (λ l. a ++ l) (sym (flat_joins here left) ∙ ap flat (sym is)) ∙ h

pub none_left : (o a : List Instruction) (all rest : Trees) → a ++ flat rest ≡ o ++ flat all → rest ≡ ε → a ≡ o ++ flat all
none_left o a all rest h is = sym (append-nil a) ∙ ap (λ (x : Trees). a ++ flat x) (sym is) ∙ h

module _ (rest here left : Trees) (is : rest ≡ here ⊕ left) (h : EachIn IsNarrow rest) where
  pub here_narrow : EachIn IsNarrow here
  here_narrow = first_part IsNarrow here left (subst (λ x. EachIn IsNarrow x) is h)

  pub left_narrow : EachIn IsNarrow left
  left_narrow = second_part IsNarrow here left (subst (λ x. EachIn IsNarrow x) is h)

-- ---- the code of what is left

module _ (size : ℕ) (c : Scope) (d : ℕ) where
  abbrev pub arguments : List CodeExpr → Trees
  arguments es = arguments_code size c d (exprs_view es)

  abbrev pub operands : List CodeLink → Trees
  operands ls = links_code size c d (links_view ls)

  abbrev pub parts : List CodeExpr → Trees
  parts es = comma_code size c d (exprs_view es)

  pub argument_left : (es : List CodeExpr) (i : ℕ) (e : CodeExpr) → i < length es → e ≡ get_or es i e → arguments (drop i es) ≡ expr_code size c true d (expr_view e) ⊕ arguments (drop (i + 1) es)
  argument_left es i e h is =
      at_drop_more arguments es i e h
      ∙ ap (λ (x : CodeExpr). expr_code size c true d (expr_view x) ⊕ arguments (drop (i + 1) es)) (sym is)

  pub no_argument : (es : List CodeExpr) (i : ℕ) → length es ≤ i → arguments (drop i es) ≡ ε
  no_argument es i h = at_drop_all arguments es i h

  operand_first : (l : CodeLink) (ls : List CodeLink) → operands (l ∷ ls) ≡ expr_code size c true d (expr_view l.operand) ⊕ (one (bin32 (link_operator l.minus)) ⊕ operands ls)
  operand_first l ls = ap (λ (v : LinkView). expr_code size c true d v.operand ⊕ (one (bin32 (link_operator v.minus)) ⊕ operands ls)) (link_view-is l)

  pub operand_left : (ls : List CodeLink) (i : ℕ) (l : CodeLink) → i < length ls → l ≡ get_or ls i l
      → operands (drop i ls) ≡ expr_code size c true d (expr_view l.operand) ⊕ (one (bin32 (link_operator l.minus)) ⊕ operands (drop (i + 1) ls))
  operand_left ls i l h is =
      at_drop_more operands ls i l h ∙ operand_first (get_or ls i l) (drop (i + 1) ls)
      ∙ ap (λ (x : CodeLink). expr_code size c true d (expr_view x.operand) ⊕ (one (bin32 (link_operator x.minus)) ⊕ operands (drop (i + 1) ls))) (sym is)

  pub no_operand : (ls : List CodeLink) (i : ℕ) → length ls ≤ i → operands (drop i ls) ≡ ε
  no_operand ls i h = at_drop_all operands ls i h

  part_first : (e : CodeExpr) (es : List CodeExpr) → 0 < length es → parts (e ∷ es) ≡ expr_code size c false d (expr_view e) ⊕ parts es
  part_first e [] h = absurd (omega arith)
  part_first e (x ∷ xs) h = refl

  -- a part that isn't the last
  pub part_left : (es : List CodeExpr) (i : ℕ) (e : CodeExpr) → i + 1 < length es → e ≡ get_or es i e → parts (drop i es) ≡ expr_code size c false d (expr_view e) ⊕ parts (drop (i + 1) es)
  part_left es i e h is =
      let within : i < length es = omega arith in
      let more : 0 < length (drop (i + 1) es) = omega (arith, length-drop (i + 1) es) in
      at_drop_more parts es i e within ∙ part_first (get_or es i e) (drop (i + 1) es) more
      ∙ ap (λ (x : CodeExpr). expr_code size c false d (expr_view x) ⊕ parts (drop (i + 1) es)) (sym is)

  pub last_part : (es : List CodeExpr) (i : ℕ) (e : CodeExpr) → i + 1 ≡ length es → e ≡ get_or es i e → parts (drop i es) ≡ expr_code size c true d (expr_view e)
  last_part es i e h is =
      let within : i < length es = omega arith in
      let none : length es ≤ i + 1 = omega arith in
      at_drop_more parts es i e within ∙ at_drop_all (λ l. parts (get_or es i e ∷ l)) es (i + 1) none
      ∙ ap (λ (x : CodeExpr). expr_code size c true d (expr_view x)) (sym is)
