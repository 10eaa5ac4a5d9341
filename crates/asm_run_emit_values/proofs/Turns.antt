-- A pass over a list of expressions, from the last item to the first: the code so far is that of the items passed.
use Rattle.std.proofs.Common.{◌≡◌, ℕ, zero, suc, ◌+◌, ◌-◌, ◌<◌, ◌≤◌, List, length, take, drop, get_or, Option, Some, None, refl, sym, ap, ◌∙◌, add-one, add-zero, length-drop, arith}
use Rattle.std.proofs.Math.Seq.{take-length}
use Rattle.asm_tree.specs.declared.tree.Expr.{Expr as CodeExpr}
use Rattle.asm_tree.specs.declared.tree.Link.{Link as CodeLink}
use Rattle.asm_tree.specs.Views.{expr_view, exprs_view, links_view}
use Rattle.asm_lang_valid.specs.Typing.{Scope}
use Rattle.asm_run_code.specs.declared.op.Op.{Op}
use Rattle.asm_run_code.specs.Operators.{link_operator}
use Rattle.asm_run_code.specs.Names.{seat}
use Rattle.asm_run_code.specs.Values.{sum_slot, linked, value, arguments, sums, last}
use Rattle.asm_run_emit_values.specs.Pieces.{sum_before, part_wanted}
use Rattle.asm_run_emit_values.proofs.Parts.{argument_left, no_argument, operand_left, no_operand, no_part, part_left, last_part}

-- what is left of a list, taken whole
whole_rest : (ls : List CodeLink) (k : ℕ) → take (length ls - k) (drop k ls) ≡ drop k ls
whole_rest ls k = ap (λ n. take n (drop k ls)) (sym (length-drop k ls)) ∙ take-length (drop k ls)

module _ (c : Scope) (o : List Op) (f : ℕ) (es : List CodeExpr) where
  pub arguments_begin : o ≡ arguments c (f + length es) (exprs_view (drop (length es) es)) o
  arguments_begin = sym (no_argument c o (f + length es) es)

  pub arguments_turn : (a b : List Op) (i j s : ℕ) (e : CodeExpr) → j ≡ i + 1 → i < length es → e ≡ get_or es i e → s ≡ f + i → a ≡ arguments c (f + j) (exprs_view (drop j es)) o → b ≡ value c (Some s) s (expr_view e) a → b ≡ arguments c (f + i) (exprs_view (drop i es)) o
  arguments_turn a b i j s e hj h is hs ha hb =
      let next : f + j ≡ suc (f + i) = omega arith in
      hb ∙ ap (value c (Some s) s (expr_view e)) ha
      ∙ ap (λ s. value c (Some s) s (expr_view e) (arguments c (f + j) (exprs_view (drop j es)) o)) hs
      ∙ ap (λ k. value c (Some (f + i)) (f + i) (expr_view e) (arguments c k (exprs_view (drop j es)) o)) next
      ∙ ap (λ m. value c (Some (f + i)) (f + i) (expr_view e) (arguments c (suc (f + i)) (exprs_view (drop m es)) o)) hj
      ∙ sym (argument_left c o (f + i) es i e h is)

  pub arguments_end : (a : List Op) (i : ℕ) → i ≡ 0 → a ≡ arguments c (f + i) (exprs_view (drop i es)) o → a ≡ arguments c f (exprs_view es) o
  arguments_end a i hi ha = ha ∙ ap (λ i. arguments c (f + i) (exprs_view (drop i es)) o) hi ∙ ap (λ k. arguments c k (exprs_view es) o) (add-zero f)

module _ (c : Scope) (w : Option ℕ) (d : ℕ) (o : List Op) where
  module _ (slot : ℕ) (ls : List CodeLink) where
    pub links_begin : o ≡ sums c w (sum_before (length ls) slot d) d (links_view (drop (length ls) ls)) o
    links_begin = sym (no_operand c w d o (sum_before (length ls) slot d) ls)

    pub links_turn : (a b : List Op) (i j to left : ℕ) (l : CodeLink) → j ≡ i + 1 → i < length ls → l ≡ get_or ls i l → to ≡ sum_slot w d (links_view (take (length ls - (i + 1)) (drop (i + 1) ls))) → left ≡ sum_before i slot d →
        a ≡ sums c w (sum_before j slot d) d (links_view (drop j ls)) o →
        b ≡ linked (seat c (expr_view l.operand)) (link_operator l.minus) to left d (λ more. value c (Some (suc d)) (suc d) (expr_view l.operand) more) a →
        b ≡ sums c w (sum_before i slot d) d (links_view (drop i ls)) o
    links_turn a b i j to left l hj h is ht hl ha hb =
        let next = ap (λ j. sum_before j slot d) (hj ∙ add-one i) in
        let after = ht ∙ ap (λ (l : List CodeLink). sum_slot w d (links_view l)) (whole_rest ls (i + 1)) ∙ ap (λ m. sum_slot w d (links_view (drop m ls))) (sym hj) in
        hb
        ∙ ap (λ a. linked (seat c (expr_view l.operand)) (link_operator l.minus) to left d (λ more. value c (Some (suc d)) (suc d) (expr_view l.operand) more) a) (ha ∙ ap (λ k. sums c w k d (links_view (drop j ls)) o) next)
        ∙ ap (λ t. linked (seat c (expr_view l.operand)) (link_operator l.minus) t left d (λ more. value c (Some (suc d)) (suc d) (expr_view l.operand) more) (sums c w d d (links_view (drop j ls)) o)) after
        ∙ ap (λ k. linked (seat c (expr_view l.operand)) (link_operator l.minus) (sum_slot w d (links_view (drop j ls))) k d (λ more. value c (Some (suc d)) (suc d) (expr_view l.operand) more) (sums c w d d (links_view (drop j ls)) o)) hl
        ∙ ap (λ m. linked (seat c (expr_view l.operand)) (link_operator l.minus) (sum_slot w d (links_view (drop m ls))) (sum_before i slot d) d (λ more. value c (Some (suc d)) (suc d) (expr_view l.operand) more) (sums c w d d (links_view (drop m ls)) o)) hj
        ∙ sym (operand_left c w d o (sum_before i slot d) ls i l h is)

    pub links_end : (a : List Op) (i : ℕ) → i ≡ 0 → a ≡ sums c w (sum_before i slot d) d (links_view (drop i ls)) o → a ≡ sums c w slot d (links_view ls) o
    links_end a i hi ha = ha ∙ ap (λ i. sums c w (sum_before i slot d) d (links_view (drop i ls)) o) hi

  module _ (es : List CodeExpr) where
    pub parts_begin : o ≡ last c w d (exprs_view (drop (length es) es)) o
    parts_begin = sym (no_part c w d o es)

    -- of a part after which n more come
    parts_more : (n : ℕ) (a b : List Op) (i j : ℕ) (to : Option ℕ) (e : CodeExpr) → n ≡ length es - j → j ≡ i + 1 → j ≤ length es → e ≡ get_or es i e → to ≡ part_wanted n w → a ≡ last c w d (exprs_view (drop j es)) o → b ≡ value c to d (expr_view e) a → b ≡ last c w d (exprs_view (drop i es)) o
    parts_more zero a b i j to e hn hj h is ht ha hb =
        let at_end : j ≡ length es = omega arith in
        let one_less : i + 1 ≡ length es = omega arith in
        hb ∙ ap (λ to. value c to d (expr_view e) a) ht ∙ ap (value c w d (expr_view e)) (ha ∙ ap (λ m. last c w d (exprs_view (drop m es)) o) at_end ∙ no_part c w d o es)
        ∙ sym (last_part c w d o es i e one_less is)
    parts_more (suc n) a b i j to e hn hj h is ht ha hb =
        let more : i + 1 < length es = omega arith in
        hb ∙ ap (λ to. value c to d (expr_view e) a) ht ∙ ap (value c None d (expr_view e)) (ha ∙ ap (λ m. last c w d (exprs_view (drop m es)) o) hj)
        ∙ sym (part_left c w d o es i e more is)

    pub parts_turn : (a b : List Op) (i j : ℕ) (to : Option ℕ) (e : CodeExpr) → j ≡ i + 1 → j ≤ length es → e ≡ get_or es i e → to ≡ part_wanted (length es - j) w → a ≡ last c w d (exprs_view (drop j es)) o → b ≡ value c to d (expr_view e) a → b ≡ last c w d (exprs_view (drop i es)) o
    parts_turn a b i j to e hj h is ht ha hb = parts_more (length es - j) a b i j to e refl hj h is ht ha hb

    pub parts_end : (a : List Op) (i : ℕ) → i ≡ 0 → a ≡ last c w d (exprs_view (drop i es)) o → a ≡ last c w d (exprs_view es) o
    parts_end a i hi ha = ha ∙ ap (λ i. last c w d (exprs_view (drop i es)) o) hi
