-- A renamed module is its own renamed form.
use Rattle.std.proofs.Common.{◌≡◌, ℕ, suc, ◌+◌, ◌≤◌, Bool, true, false, ◌||◌, List, [], ◌∷◌, ◌++◌, length, take, drop, Option, Some, None, refl, sym, ap, ap₂, ◌∙◌, subst, subst₂, arith, append-nil, unwrap_or}
use Rattle.std.specs.Prelude.{if◌then◌else◌, map, bytes_eq, filter_map, Contains}
use Rattle.std.specs.List.{cons_option}
use Rattle.asm_lang.specs.Trees.{Init, number, decimal, foreign_int, foreign_double, member, math, view}
use Rattle.asm_lang.specs.Modules.{Expr, lit, decimal as decimal_expr, var, index, call, table_call, assign, store, unary, binary, chain, cond, comma, Exprs, no_exprs, exprs, Links, no_links, links, Stmt, block, plain, empty, if_only, if_else, returns, while_loop, do_while, for_loop, breaks, continues, labelled, switches, Stmts, no_stmts, stmts, Clauses, no_clauses, clauses, Function, Export, Exports, one, many, Module}
use Rattle.asm_lang_valid.specs.Scope.{is_in, is_name}
use Rattle.asm_short_lang.specs.Sequence.{first_names}
use Rattle.asm_short_lang.specs.Uses.{Use, of_variable, of_view, of_callee, of_table, name_of, expr_uses, exprs_uses, links_uses, option_uses, stmt_uses, stmts_uses, clauses_uses}
use Rattle.asm_short_lang.specs.Renaming.{in_place, replaced, kept_name, excluded_name, given_names, declared_names, new_declared, declared_name, local_names, new_locals, used_name, used_names, name_in, expr_with, exprs_with, links_with, option_with, labels_in, labels_in_all, labels_in_clauses, Labels, no_labels, label_with, stmt_with, stmts_with, clauses_with, body_with, init_with, renamed_param, renamed_local, renamed_function, renamed_global, renamed_table, renamed_exports, renamed}
use Rattle.asm_laws_short.proofs.Lists.{same_name, itself, either_false, Distinct, Placed}
use Rattle.asm_laws_short.proofs.Fresh.{NotAmong, kept_is_excluded, first_are_as_many}
use Rattle.asm_laws_short.proofs.Labels.{length_part, all_replaced, same_map}
use Rattle.asm_laws_short.proofs.Renamed.{as_many_new, new_name, new_local, local_names_new, module_name, not_local}
use Rattle.asm_laws_short.proofs.Named.{declared_map}
use Rattle.asm_laws_short.proofs.Typed.{in_map}
use Rattle.asm_laws_short.proofs.Kept.{contains_here, contains_later}

-- ---- a list in place of itself

in_itself : (xs : List (List ℕ)) (n o : List ℕ) → o ≡ n → unwrap_or (in_place xs xs n) o ≡ n
in_itself [] n o e = e
in_itself (x ∷ xs) n o e = by (bytes_eq x n) refl (in_itself xs n o e)
  where
    by : (b : Bool) → bytes_eq x n ≡ b → unwrap_or (in_place xs xs n) o ≡ n → unwrap_or (if b then Some x else in_place xs xs n) o ≡ n
    by true f rest = same_name x n f
    by false f rest = rest

found_itself : (xs : List (List ℕ)) (n : List ℕ) → is_in n xs ≡ true → in_place xs xs n ≡ Some n
found_itself [] n h = absurd (cc h)
found_itself (x ∷ xs) n h = by (bytes_eq x n) refl (found_itself xs n) h
  where
    by : (b : Bool) → bytes_eq x n ≡ b → (is_in n xs ≡ true → in_place xs xs n ≡ Some n) → (b || is_in n xs) ≡ true → (if b then Some x else in_place xs xs n) ≡ Some n
    by true f rest h = ap (λ z. Some z) (same_name x n f)
    by false f rest h = rest h

whole_replaced : (xs ys : List (List ℕ)) → length ys ≡ length xs → Distinct xs → map (replaced xs ys) xs ≡ ys
whole_replaced xs ys l d = subst₂ (λ os ws. map (replaced os ws) xs ≡ ys) (append-nil xs) (append-nil ys) (all_replaced xs ys [] [] l d)

map_itself : {A : Type 0} (f : A → A) (xs : List A) → ((x : A) → f x ≡ x) → map f xs ≡ xs
map_itself f [] h = refl
map_itself f (x ∷ xs) h = ap₂ (λ y ys. y ∷ ys) (h x) (map_itself f xs h)

length_mapped : {A B : Type 0} (f : A → B) (xs : List A) → length (map f xs) ≡ length xs
length_mapped f [] = refl
length_mapped f (x ∷ xs) = ap suc (length_mapped f xs)

-- ---- names that were given are given again

given_again : (kept : Option (List ℕ)) (olds fresh : List (List ℕ)) → NotAmong kept fresh → given_names kept (given_names kept olds fresh) fresh ≡ given_names kept olds fresh
given_again kept [] fresh a = refl
given_again kept (o ∷ os) [] a = refl
given_again kept (o ∷ os) (w ∷ ws) a = by (is_name o kept) refl (is_name w kept) refl (given_again kept os (w ∷ ws) a) (given_again kept os ws (λ n e. (either_false (bytes_eq w n) (is_in n ws) (a n e)).1))
  where
    by : (b : Bool) → is_name o kept ≡ b → (t : Bool) → is_name w kept ≡ t → given_names kept (given_names kept os (w ∷ ws)) (w ∷ ws) ≡ given_names kept os (w ∷ ws) → given_names kept (given_names kept os ws) ws ≡ given_names kept os ws
        → given_names kept (if b then o ∷ given_names kept os (w ∷ ws) else w ∷ given_names kept os ws) (w ∷ ws) ≡ (if b then o ∷ given_names kept os (w ∷ ws) else w ∷ given_names kept os ws)
    by true e t f more fewer = rw e (ap (λ ns. o ∷ ns) more)
    by false e true f more fewer = absurd (let g = (either_false (bytes_eq w w) (is_in w ws) (a w f)).0 in let i = itself w in cc)
    by false e false f more fewer = rw f (ap (λ ns. w ∷ ns) fewer)

-- ---- code whose names stay

module _ (look : List ℕ → List ℕ) (stay : (n : List ℕ) → look n ≡ n) where
  mutual
    expr_stays : (e : Expr) → expr_with look e ≡ e
    expr_stays (lit z) = refl
    expr_stays (decimal_expr bs) = refl
    expr_stays (var n) = ap var (stay n)
    expr_stays (index n i) = ap₂ index (stay n) (expr_stays i)
    expr_stays (call n es) = ap₂ call (stay n) (exprs_stay es)
    expr_stays (table_call n i es) = let a = stay n in let b = expr_stays i in let c = exprs_stay es in (λ x. table_call (a x) (b x) (c x))
    expr_stays (assign n e) = ap₂ assign (stay n) (expr_stays e)
    expr_stays (store n i e) = let a = stay n in let b = expr_stays i in let c = expr_stays e in (λ x. store (a x) (b x) (c x))
    expr_stays (unary op e) = ap (unary op) (expr_stays e)
    expr_stays (binary op l r) = ap₂ (λ x y. binary op x y) (expr_stays l) (expr_stays r)
    expr_stays (chain e ls) = ap₂ chain (expr_stays e) (links_stay ls)
    expr_stays (cond e a b) = let x = expr_stays e in let y = expr_stays a in let z = expr_stays b in (λ i. cond (x i) (y i) (z i))
    expr_stays (comma es) = ap comma (exprs_stay es)

    exprs_stay : (es : Exprs) → exprs_with look es ≡ es
    exprs_stay no_exprs = refl
    exprs_stay (exprs e es) = ap₂ exprs (expr_stays e) (exprs_stay es)

    links_stay : (ls : Links) → links_with look ls ≡ ls
    links_stay no_links = refl
    links_stay (links minus e ls) = ap₂ (links minus) (expr_stays e) (links_stay ls)

  option_stays : (o : Option Expr) → option_with look o ≡ o
  option_stays None = refl
  option_stays (Some e) = ap (λ x. Some x) (expr_stays e)

  -- ---- labels that were given are given again

  module _ (first : List ℕ → List ℕ) (fresh : List (List ℕ)) where
    abbrev again : Labels → Labels
    again around = record { olds = around.news; news = around.news }

    mutual
      labels_stay : (s : Stmt) (around : Labels) (before : ℕ) → before + labels_in s ≤ length fresh → labels_in (stmt_with first fresh around before s) ≡ labels_in s
      labels_stay (block ss) around before room = labels_stay_all ss around before room
      labels_stay (plain e) around before room = refl
      labels_stay empty around before room = refl
      labels_stay (if_only e s) around before room = labels_stay s around before room
      labels_stay (if_else e s r) around before room = ap₂ (λ x y. x + y) (labels_stay s around before (omega (arith, room))) (labels_stay r around (before + labels_in s) (omega (arith, room)))
      labels_stay (returns o) around before room = refl
      labels_stay (while_loop e s) around before room = labels_stay s around before room
      labels_stay (do_while s e) around before room = labels_stay s around before room
      labels_stay (for_loop x y z s) around before room = labels_stay s around before room
      labels_stay (breaks l) around before room = refl
      labels_stay (continues l) around before room = refl
      labels_stay (labelled ns s) around before room =
          ap₂ (λ x y. x + y) (length_part before (length ns) fresh (omega (arith, room))) (labels_stay s (record { olds = ns ++ around.olds; news = take (length ns) (drop before fresh) ++ around.news }) (before + length ns) (omega (arith, room)))
      labels_stay (switches e cs) around before room = labels_stay_clauses cs around before room

      labels_stay_all : (ss : Stmts) (around : Labels) (before : ℕ) → before + labels_in_all ss ≤ length fresh → labels_in_all (stmts_with first fresh around before ss) ≡ labels_in_all ss
      labels_stay_all no_stmts around before room = refl
      labels_stay_all (stmts s ss) around before room = ap₂ (λ x y. x + y) (labels_stay s around before (omega (arith, room))) (labels_stay_all ss around (before + labels_in s) (omega (arith, room)))

      labels_stay_clauses : (cs : Clauses) (around : Labels) (before : ℕ) → before + labels_in_clauses cs ≤ length fresh → labels_in_clauses (clauses_with first fresh around before cs) ≡ labels_in_clauses cs
      labels_stay_clauses no_clauses around before room = refl
      labels_stay_clauses (clauses v ss cs) around before room = ap₂ (λ x y. x + y) (labels_stay_all ss around before (omega (arith, room))) (labels_stay_clauses cs around (before + labels_in_all ss) (omega (arith, room)))

    label_stays : (around : Labels) (l : Option (List ℕ)) → label_with (again around) (label_with around l) ≡ label_with around l
    label_stays around None = refl
    label_stays around (Some n) = ap (λ x. Some x) (in_itself around.news (replaced around.olds around.news n) (replaced around.olds around.news n) refl)

    mutual
      stmt_stays : (s : Stmt) (around : Labels) (before : ℕ) → before + labels_in s ≤ length fresh → stmt_with look fresh (again around) before (stmt_with first fresh around before s) ≡ stmt_with first fresh around before s
      stmt_stays (block ss) around before room = ap block (stmts_stay ss around before room)
      stmt_stays (plain e) around before room = ap plain (expr_stays (expr_with first e))
      stmt_stays empty around before room = refl
      stmt_stays (if_only e s) around before room = ap₂ if_only (expr_stays (expr_with first e)) (stmt_stays s around before room)
      stmt_stays (if_else e s r) around before room =
          let a = expr_stays (expr_with first e) in
          let b = stmt_stays s around before (omega (arith, room)) in
          let c = subst (λ n. stmt_with look fresh (again around) (before + n) (stmt_with first fresh around (before + labels_in s) r) ≡ stmt_with first fresh around (before + labels_in s) r) (sym (labels_stay s around before (omega (arith, room)))) (stmt_stays r around (before + labels_in s) (omega (arith, room))) in
          (λ i. if_else (a i) (b i) (c i))
      stmt_stays (returns o) around before room = ap returns (option_stays (option_with first o))
      stmt_stays (while_loop e s) around before room = ap₂ while_loop (expr_stays (expr_with first e)) (stmt_stays s around before room)
      stmt_stays (do_while s e) around before room = ap₂ do_while (stmt_stays s around before room) (expr_stays (expr_with first e))
      stmt_stays (for_loop x y z s) around before room =
          let a = option_stays (option_with first x) in
          let b = option_stays (option_with first y) in
          let c = option_stays (option_with first z) in
          let d = stmt_stays s around before room in
          (λ i. for_loop (a i) (b i) (c i) (d i))
      stmt_stays (breaks l) around before room = ap breaks (label_stays around l)
      stmt_stays (continues l) around before room = ap continues (label_stays around l)
      stmt_stays (labelled ns s) around before room =
          let ys = take (length ns) (drop before fresh) in
          let e : length ys ≡ length ns = length_part before (length ns) fresh (omega (arith, room)) in
          let body = stmt_stays s (record { olds = ns ++ around.olds; news = ys ++ around.news }) (before + length ns) (omega (arith, room)) in
          subst (λ n. labelled (take n (drop before fresh)) (stmt_with look fresh (record { olds = ys ++ around.news; news = take n (drop before fresh) ++ around.news }) (before + n) (stmt_with first fresh (record { olds = ns ++ around.olds; news = ys ++ around.news }) (before + length ns) s)) ≡ labelled ys (stmt_with first fresh (record { olds = ns ++ around.olds; news = ys ++ around.news }) (before + length ns) s)) (sym e) (ap (labelled ys) body)
      stmt_stays (switches e cs) around before room = ap₂ switches (expr_stays (expr_with first e)) (clauses_stay cs around before room)

      stmts_stay : (ss : Stmts) (around : Labels) (before : ℕ) → before + labels_in_all ss ≤ length fresh → stmts_with look fresh (again around) before (stmts_with first fresh around before ss) ≡ stmts_with first fresh around before ss
      stmts_stay no_stmts around before room = refl
      stmts_stay (stmts s ss) around before room =
          ap₂ stmts (stmt_stays s around before (omega (arith, room)))
          (subst (λ n. stmts_with look fresh (again around) (before + n) (stmts_with first fresh around (before + labels_in s) ss) ≡ stmts_with first fresh around (before + labels_in s) ss) (sym (labels_stay s around before (omega (arith, room)))) (stmts_stay ss around (before + labels_in s) (omega (arith, room))))

      clauses_stay : (cs : Clauses) (around : Labels) (before : ℕ) → before + labels_in_clauses cs ≤ length fresh → clauses_with look fresh (again around) before (clauses_with first fresh around before cs) ≡ clauses_with first fresh around before cs
      clauses_stay no_clauses around before room = refl
      clauses_stay (clauses v ss cs) around before room =
          ap₂ (clauses v) (stmts_stay ss around before (omega (arith, room)))
          (subst (λ n. clauses_with look fresh (again around) (before + n) (clauses_with first fresh around (before + labels_in_all ss) cs) ≡ clauses_with first fresh around (before + labels_in_all ss) cs) (sym (labels_stay_all ss around before (omega (arith, room)))) (clauses_stay cs around (before + labels_in_all ss) (omega (arith, room))))

  body_stays : (first : List ℕ → List ℕ) (ss : Stmts) → body_with look (body_with first ss) ≡ body_with first ss
  body_stays first ss =
      let fresh = first_names [] (labels_in_all ss) in
      let long = first_are_as_many [] (labels_in_all ss) in
      let room : 0 + labels_in_all ss ≤ length fresh = omega (arith, long) in
      subst (λ n. stmts_with look (first_names [] n) no_labels 0 (body_with first ss) ≡ body_with first ss) (sym (labels_stay_all first fresh ss no_labels 0 room)) (stmts_stay first fresh ss no_labels 0 room)

-- ---- what renamed code uses

abbrev pub use_with : (look : List ℕ → List ℕ) → Use → Use
use_with look (of_variable n) = of_variable (look n)
use_with look (of_view n) = of_view (look n)
use_with look (of_callee n) = of_callee (look n)
use_with look (of_table n) = of_table (look n)

name_with : (look : List ℕ → List ℕ) (u : Use) → name_of (use_with look u) ≡ look (name_of u)
name_with look (of_variable n) = refl
name_with look (of_view n) = refl
name_with look (of_callee n) = refl
name_with look (of_table n) = refl

module _ (look : List ℕ → List ℕ) where
  uses_both : (us vs xs ys : List Use) → us ≡ map (use_with look) xs → vs ≡ map (use_with look) ys → us ++ vs ≡ map (use_with look) (xs ++ ys)
  uses_both us vs [] ys h k = ap₂ (λ x y. x ++ y) h k
  uses_both us vs (x ∷ xs) ys h k = ap (λ l. l ++ vs) h ∙ ap (λ l. use_with look x ∷ l) (uses_both (map (use_with look) xs) vs xs ys refl k)

  mutual
    expr_used : (e : Expr) → expr_uses (expr_with look e) ≡ map (use_with look) (expr_uses e)
    expr_used (lit z) = refl
    expr_used (decimal_expr bs) = refl
    expr_used (var n) = refl
    expr_used (index n i) = ap (λ us. of_view (look n) ∷ us) (expr_used i)
    expr_used (call n es) = ap (λ us. of_callee (look n) ∷ us) (exprs_used es)
    expr_used (table_call n i es) = ap (λ us. of_table (look n) ∷ us) (uses_both _ _ (expr_uses i) (exprs_uses es) (expr_used i) (exprs_used es))
    expr_used (assign n e) = ap (λ us. of_variable (look n) ∷ us) (expr_used e)
    expr_used (store n i e) = ap (λ us. of_view (look n) ∷ us) (uses_both _ _ (expr_uses i) (expr_uses e) (expr_used i) (expr_used e))
    expr_used (unary op e) = expr_used e
    expr_used (binary op l r) = uses_both _ _ (expr_uses l) (expr_uses r) (expr_used l) (expr_used r)
    expr_used (chain e ls) = uses_both _ _ (expr_uses e) (links_uses ls) (expr_used e) (links_used ls)
    expr_used (cond e a b) = uses_both _ _ (expr_uses e) (expr_uses a ++ expr_uses b) (expr_used e) (uses_both _ _ (expr_uses a) (expr_uses b) (expr_used a) (expr_used b))
    expr_used (comma es) = exprs_used es

    exprs_used : (es : Exprs) → exprs_uses (exprs_with look es) ≡ map (use_with look) (exprs_uses es)
    exprs_used no_exprs = refl
    exprs_used (exprs e es) = uses_both _ _ (expr_uses e) (exprs_uses es) (expr_used e) (exprs_used es)

    links_used : (ls : Links) → links_uses (links_with look ls) ≡ map (use_with look) (links_uses ls)
    links_used no_links = refl
    links_used (links minus e ls) = uses_both _ _ (expr_uses e) (links_uses ls) (expr_used e) (links_used ls)

  option_used : (o : Option Expr) → option_uses (option_with look o) ≡ map (use_with look) (option_uses o)
  option_used None = refl
  option_used (Some e) = expr_used e

  module _ (fresh : List (List ℕ)) where
    mutual
      stmt_used : (s : Stmt) (around : Labels) (before : ℕ) → stmt_uses (stmt_with look fresh around before s) ≡ map (use_with look) (stmt_uses s)
      stmt_used (block ss) around before = stmts_used ss around before
      stmt_used (plain e) around before = expr_used e
      stmt_used empty around before = refl
      stmt_used (if_only e s) around before = uses_both _ _ (expr_uses e) (stmt_uses s) (expr_used e) (stmt_used s around before)
      stmt_used (if_else e s r) around before = uses_both _ _ (expr_uses e) (stmt_uses s ++ stmt_uses r) (expr_used e) (uses_both _ _ (stmt_uses s) (stmt_uses r) (stmt_used s around before) (stmt_used r around (before + labels_in s)))
      stmt_used (returns o) around before = option_used o
      stmt_used (while_loop e s) around before = uses_both _ _ (expr_uses e) (stmt_uses s) (expr_used e) (stmt_used s around before)
      stmt_used (do_while s e) around before = uses_both _ _ (stmt_uses s) (expr_uses e) (stmt_used s around before) (expr_used e)
      stmt_used (for_loop x y z s) around before =
          uses_both _ _ (option_uses x) (option_uses y ++ (option_uses z ++ stmt_uses s)) (option_used x) (uses_both _ _ (option_uses y) (option_uses z ++ stmt_uses s) (option_used y) (uses_both _ _ (option_uses z) (stmt_uses s) (option_used z) (stmt_used s around before)))
      stmt_used (breaks l) around before = refl
      stmt_used (continues l) around before = refl
      stmt_used (labelled ns s) around before = stmt_used s (record { olds = ns ++ around.olds; news = take (length ns) (drop before fresh) ++ around.news }) (before + length ns)
      stmt_used (switches e cs) around before = uses_both _ _ (expr_uses e) (clauses_uses cs) (expr_used e) (clauses_used cs around before)

      stmts_used : (ss : Stmts) (around : Labels) (before : ℕ) → stmts_uses (stmts_with look fresh around before ss) ≡ map (use_with look) (stmts_uses ss)
      stmts_used no_stmts around before = refl
      stmts_used (stmts s ss) around before = uses_both _ _ (stmt_uses s) (stmts_uses ss) (stmt_used s around before) (stmts_used ss around (before + labels_in s))

      clauses_used : (cs : Clauses) (around : Labels) (before : ℕ) → clauses_uses (clauses_with look fresh around before cs) ≡ map (use_with look) (clauses_uses cs)
      clauses_used no_clauses around before = refl
      clauses_used (clauses v ss cs) around before = uses_both _ _ (stmts_uses ss) (clauses_uses cs) (stmts_used ss around before) (clauses_used cs around (before + labels_in_all ss))

  pub body_used : (ss : Stmts) → stmts_uses (body_with look ss) ≡ map (use_with look) (stmts_uses ss)
  body_used ss = stmts_used (first_names [] (labels_in_all ss)) ss no_labels 0

-- ---- the module

init_stays : (look : List ℕ → List ℕ) → ((n : List ℕ) → look n ≡ n) → (i : Init) → init_with look i ≡ i
init_stays look stay (number z) = refl
init_stays look stay (decimal bs) = refl
init_stays look stay (foreign_int f p) = ap (λ x. foreign_int x p) (stay f)
init_stays look stay (foreign_double f p) = ap (λ x. foreign_double x p) (stay f)
init_stays look stay (member f p) = ap (λ x. member x p) (stay f)
init_stays look stay (math f p) = ap (λ x. math x p) (stay f)
init_stays look stay (view f p b) = ap₂ (λ x y. view x p y) (stay f) (stay b)

module _ (r : Module) (d : Distinct (declared_names r)) (single : (f : List ℕ) → r.exports ≡ one f → declared_name r f ≡ f) where
  names_new : declared_names (renamed r) ≡ new_declared r
  names_new = declared_map r ∙ whole_replaced (declared_names r) (new_declared r) (as_many_new r d) d

  kept_same : kept_name (renamed r).exports ≡ kept_name r.exports
  kept_same = by r.exports refl
    where
      by : (x : Exports) → r.exports ≡ x → kept_name (renamed_exports r x) ≡ kept_name x
      by (one f) e = ap (λ n. Some n) (single f e)
      by (many es) e = refl

  new_again : new_declared (renamed r) ≡ new_declared r
  new_again =
      let k = kept_name r.exports in
      ap₂ (λ k ns. given_names k ns (first_names (excluded_name k) (length ns))) kept_same names_new
      ∙ (ap (λ n. given_names k (new_declared r) (first_names (excluded_name k) n)) (as_many_new r d)
      ∙ given_again k (declared_names r) (first_names (excluded_name k) (length (declared_names r))) (kept_is_excluded k (length (declared_names r))))

  pub declared_stays : (n : List ℕ) → declared_name (renamed r) n ≡ n
  declared_stays n = ap₂ (λ os ws. replaced os ws n) names_new new_again ∙ in_itself (new_declared r) n n refl

  module _ (f : Function) (e : Distinct (local_names f)) (inside : (u : Use) → Contains (stmts_uses f.body) u → is_in (name_of u) (local_names f) ≡ false → is_in (name_of u) (declared_names r) ≡ true) where
    locals_are : local_names (renamed_function r f) ≡ new_locals r f
    locals_are =
        let long = first_are_as_many (used_names r f) (length (local_names f)) in
        local_names_new r f
        ∙ (same_map (name_in r f) (replaced (local_names f) (new_locals r f)) (local_names f) (λ x i. by x (new_local r f x i)) ∙ whole_replaced (local_names f) (new_locals r f) long e)
      where
        by : (x : List ℕ) → Placed (local_names f) (new_locals r f) x → name_in r f x ≡ replaced (local_names f) (new_locals r f) x
        by x p = let i = p.is in rw i refl

    name_again : (u : Use) → Contains (stmts_uses f.body) u → used_name (renamed r) (renamed_function r f) (name_in r f (name_of u)) ≡ used_name r f (name_of u)
    name_again u c = by (is_in (name_of u) (local_names f)) refl
      where
        of_module : is_in (name_of u) (local_names f) ≡ false → used_name (renamed r) (renamed_function r f) (name_in r f (name_of u)) ≡ used_name r f (name_of u)
        of_module k =
            let i = inside u c k in
            let away = not_local r f d u c k i in
            let p = new_name r d (name_of u) i in
            let q = p.is in
            let named : name_in r f (name_of u) ≡ p.name = module_name r f (name_of u) k ∙ (rw q refl) in
            let found : in_place (declared_names (renamed r)) (new_declared (renamed r)) (name_in r f (name_of u)) ≡ Some p.name = ap₂ (λ os ws. in_place os ws (name_in r f (name_of u))) names_new new_again ∙ (ap (in_place (new_declared r) (new_declared r)) named ∙ found_itself (new_declared r) p.name p.among) in
            let left : used_name (renamed r) (renamed_function r f) (name_in r f (name_of u)) ≡ Some p.name = rw away found in
            let right : used_name r f (name_of u) ≡ Some p.name = rw k q in
            left ∙ sym right

        of_local : is_in (name_of u) (local_names f) ≡ true → used_name (renamed r) (renamed_function r f) (name_in r f (name_of u)) ≡ used_name r f (name_of u)
        of_local k =
            let there : is_in (name_in r f (name_of u)) (local_names (renamed_function r f)) ≡ true = subst (λ l. is_in (name_in r f (name_of u)) l ≡ true) (sym (local_names_new r f)) (in_map (name_in r f) (local_names f) (name_of u) k) in
            let left : used_name (renamed r) (renamed_function r f) (name_in r f (name_of u)) ≡ None = rw there refl in
            let right : used_name r f (name_of u) ≡ None = rw k refl in
            left ∙ sym right

        by : (b : Bool) → is_in (name_of u) (local_names f) ≡ b → used_name (renamed r) (renamed_function r f) (name_in r f (name_of u)) ≡ used_name r f (name_of u)
        by true k = of_local k
        by false k = of_module k

    used_again : used_names (renamed r) (renamed_function r f) ≡ used_names r f
    used_again = ap (λ us. filter_map (used_name (renamed r) (renamed_function r f)) (map name_of us)) (body_used (name_in r f) f.body) ∙ by (stmts_uses f.body) (λ u c. c)
      where
        by : (us : List Use) → ((u : Use) → Contains us u → Contains (stmts_uses f.body) u) → filter_map (used_name (renamed r) (renamed_function r f)) (map name_of (map (use_with (name_in r f)) us)) ≡ filter_map (used_name r f) (map name_of us)
        by [] all = refl
        by (u ∷ us) all = ap₂ cons_option (ap (used_name (renamed r) (renamed_function r f)) (name_with (name_in r f) u) ∙ name_again u (all u (contains_here u u us refl))) (by us (λ v c. all v (contains_later v u us c)))

    locals_again : new_locals (renamed r) (renamed_function r f) ≡ new_locals r f
    locals_again =
        let long = first_are_as_many (used_names r f) (length (local_names f)) in
        ap₂ first_names used_again (ap length locals_are ∙ long)

    name_stays : (n : List ℕ) → name_in (renamed r) (renamed_function r f) n ≡ n
    name_stays n = ap₂ (λ os ws. unwrap_or (in_place os ws n) (declared_name (renamed r) n)) locals_are locals_again ∙ in_itself (new_locals r f) n (declared_name (renamed r) n) (declared_stays n)

    pub function_stays : renamed_function (renamed r) (renamed_function r f) ≡ renamed_function r f
    function_stays =
        let g = renamed_function r f in
        let a = declared_stays g.name in
        let b = map_itself (renamed_param (renamed r) g) g.params (λ p. (λ i. record { name = name_stays p.name i; double = p.double })) in
        let c = map_itself (renamed_local (renamed r) g) g.locals (λ v. (λ i. record { name = name_stays v.name i; init = v.init })) in
        let e = body_stays (name_in (renamed r) g) name_stays (name_in r f) f.body in
        (λ i. record { name = a i; params = b i; locals = c i; body = e i })

  module _ (each : (f : Function) → Contains r.functions f → renamed_function (renamed r) (renamed_function r f) ≡ renamed_function r f) where
    functions_stay : (fs : List Function) → ((f : Function) → Contains fs f → Contains r.functions f) → map (renamed_function (renamed r)) (map (renamed_function r) fs) ≡ map (renamed_function r) fs
    functions_stay [] all = refl
    functions_stay (f ∷ fs) all = ap₂ (λ g gs. g ∷ gs) (each f (all f (contains_here f f fs refl))) (functions_stay fs (λ g c. all g (contains_later g f fs c)))

    exports_stay : (x : Exports) → renamed_exports (renamed r) x ≡ x
    exports_stay (one f) = ap one (declared_stays f)
    exports_stay (many es) = ap many (map_itself (λ (e : Export). record e { function = declared_name (renamed r) e.function }) es (λ e. (λ i. record { key = e.key; function = declared_stays e.function i })))

    pub module_stays : renamed (renamed r) ≡ renamed r
    module_stays =
        let s = renamed r in
        let a = map_itself (declared_name s) s.params declared_stays in
        let b = map_itself (renamed_global s) s.globals (λ v. (λ i. record { name = declared_stays v.name i; init = init_stays (declared_name s) declared_stays v.init i })) in
        let c = functions_stay r.functions (λ f k. k) in
        let e = map_itself (renamed_table s) s.tables (λ t. (λ i. record { name = declared_stays t.name i; members = map_itself (declared_name s) t.members declared_stays i })) in
        let x = exports_stay s.exports in
        (λ i. record { name = r.name; params = a i; globals = b i; functions = c i; tables = e i; exports = x i })
