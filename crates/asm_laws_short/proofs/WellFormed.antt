-- The short form of a module that can be printed and read again can be, and is no higher.
use Rattle.std.proofs.Common.{◌≡◌, ℕ, suc, ◌+◌, ◌≤◌, max, true, List, [], ◌∷◌, ◌++◌, length, take, drop, Option, Some, None, pos, negsuc, refl, sym, ap, ap₂, ◌∙◌, subst, ◌⊎◌, inl, inr, arith, unwrap_or}
use Rattle.std.specs.Prelude.{map, bytes_eq}
use Rattle.std.specs.List.{AllByRecursion}
use Rattle.asm_lang.specs.Lexemes.{identifier}
use Rattle.asm_lang.specs.Trees.{Init, number, decimal, foreign_int, foreign_double, member, math, view}
use Rattle.asm_lang.specs.Modules.{Expr, lit, decimal as decimal_expr, var, index, call, table_call, assign, store, unary, binary, chain, cond, comma, Exprs, no_exprs, exprs, Links, no_links, links, Stmt, block, plain, empty, if_only, if_else, returns, while_loop, do_while, for_loop, breaks, continues, labelled, switches, Stmts, no_stmts, stmts, Clauses, no_clauses, clauses, Function, Table, Export, Exports, one, many, Module}
use Rattle.asm_lang.specs.Heights.{expr_height, exprs_height, links_height, option_height, Heights, alone, block_heights, stmt_heights, stmts_height, clauses_height, leaves_height, function_height, functions_height, exports_height, module_height, IsWellFormed}
use Rattle.asm_laws_print.specs.Spelled.{HasClass, is_chain, some_links, two_exprs, FitsExpr, FitsExprs, FitsLinks}
use Rattle.asm_laws_print.specs.Fitting.{FitsOption, FitsName, AreNames, ends_open, is_labelled, some_names, some_clauses, FitsStmt, FitsStmts, FitsClauses, FitsInit, FitsGlobal, FitsLocal, FitsParam, FitsFunction, FitsTable, FitsExport, FitsExports, FitsModule}
use Rattle.asm_laws_print.proofs.Printed.{well_formed_fits, fits_well_formed}
use Rattle.asm_lang_valid.specs.Scope.{is_in, is_name}
use Rattle.asm_short_lang.specs.Sequence.{first_names}
use Rattle.asm_short_lang.specs.Short.{IsShort}
use Rattle.asm_short_lang.specs.Reached.{IsReached, IsEntered, Keeps, none, kept, left_out}
use Rattle.asm_short_lang.specs.Renaming.{in_place, kept_name, excluded_name, declared_names, new_declared, declared_name, local_names, new_locals, used_names, name_in, expr_with, exprs_with, links_with, option_with, labels_in, labels_in_all, labels_in_clauses, Labels, no_labels, label_with, stmt_with, stmts_with, clauses_with, init_with, renamed_param, renamed_local, renamed_function, renamed_global, renamed_table, renamed_exports, renamed}
use Rattle.asm_laws_short.proofs.Lists.{same_name, itself, or_left, or_right, in_either, in_take, in_right, front_and_rest, in_place_is_new}
use Rattle.asm_laws_short.proofs.Fresh.{first_are_as_many, given_is}
use Rattle.asm_laws_short.proofs.Labels.{length_part}
use Rattle.asm_laws_short.proofs.Identifiers.{first_are_identifiers}
use Rattle.asm_laws_short.proofs.Outside.{rest_of}

abbrev KeepsNames : (List ℕ → List ℕ) → Type 0
KeepsNames look = (n : List ℕ) → HasClass identifier n → HasClass identifier (look n)

-- ---- expressions

module _ (look : List ℕ → List ℕ) where
  chain_same : (e : Expr) → is_chain (expr_with look e) ≡ is_chain e
  chain_same (lit z) = refl
  chain_same (decimal_expr bs) = refl
  chain_same (var n) = refl
  chain_same (index n i) = refl
  chain_same (call n es) = refl
  chain_same (table_call n i es) = refl
  chain_same (assign n e) = refl
  chain_same (store n i e) = refl
  chain_same (unary op e) = refl
  chain_same (binary op l r) = refl
  chain_same (chain e ls) = refl
  chain_same (cond e a b) = refl
  chain_same (comma es) = refl

  links_there : (ls : Links) → some_links (links_with look ls) ≡ some_links ls
  links_there no_links = refl
  links_there (links minus e ls) = refl

  two_there : (es : Exprs) → two_exprs (exprs_with look es) ≡ two_exprs es
  two_there no_exprs = refl
  two_there (exprs e no_exprs) = refl
  two_there (exprs e (exprs f es)) = refl

  mutual
    expr_high : (e : Expr) → expr_height (expr_with look e) ≡ expr_height e
    expr_high (lit z) = refl
    expr_high (decimal_expr bs) = refl
    expr_high (var n) = refl
    expr_high (index n i) = ap (λ h. 1 + h) (expr_high i)
    expr_high (call n es) = ap (λ h. 1 + h) (exprs_high es)
    expr_high (table_call n i es) = ap₂ (λ h k. 1 + max h k) (expr_high i) (exprs_high es)
    expr_high (assign n e) = ap (λ h. 1 + h) (expr_high e)
    expr_high (store n i e) = ap₂ (λ h k. 1 + max h k) (expr_high i) (expr_high e)
    expr_high (unary op e) = ap (λ h. 1 + h) (expr_high e)
    expr_high (binary op l r) = ap₂ (λ h k. 1 + max h k) (expr_high l) (expr_high r)
    expr_high (chain e ls) = ap₂ (λ h k. 1 + max h k) (expr_high e) (links_high ls)
    expr_high (cond e a b) = ap₂ (λ h k. 1 + max h k) (expr_high e) (ap₂ (λ h k. max h k) (expr_high a) (expr_high b))
    expr_high (comma es) = ap (λ h. 1 + h) (exprs_high es)

    exprs_high : (es : Exprs) → exprs_height (exprs_with look es) ≡ exprs_height es
    exprs_high no_exprs = refl
    exprs_high (exprs e es) = ap₂ (λ h k. max h k) (expr_high e) (exprs_high es)

    links_high : (ls : Links) → links_height (links_with look ls) ≡ links_height ls
    links_high no_links = refl
    links_high (links minus e ls) = ap₂ (λ h k. max h k) (expr_high e) (links_high ls)

  option_high : (o : Option Expr) → option_height (option_with look o) ≡ option_height o
  option_high None = refl
  option_high (Some e) = expr_high e

  module _ (fits : KeepsNames look) where
    mutual
      expr_fits : (e : Expr) → FitsExpr e → FitsExpr (expr_with look e)
      expr_fits (lit (pos n)) h = h
      expr_fits (lit (negsuc n)) h = h
      expr_fits (decimal_expr bs) h = h
      expr_fits (var n) h = fits n h
      expr_fits (index n i) h = (fits n h.0, expr_fits i h.1)
      expr_fits (call n es) h = (fits n h.0, exprs_fit es h.1)
      expr_fits (table_call n i es) h = (fits n h.0, expr_fits i h.1, exprs_fit es h.2)
      expr_fits (assign n e) h = (fits n h.0, expr_fits e h.1)
      expr_fits (store n i e) h = (fits n h.0, expr_fits i h.1, expr_fits e h.2)
      expr_fits (unary op e) h = expr_fits e h
      expr_fits (binary op l r) h = (h.0, expr_fits l h.1, expr_fits r h.2)
      expr_fits (chain e ls) h = (chain_same e ∙ h.0, links_there ls ∙ h.1, expr_fits e h.2, links_fit ls h.3)
      expr_fits (cond e a b) h = (expr_fits e h.0, expr_fits a h.1, expr_fits b h.2)
      expr_fits (comma es) h = (two_there es ∙ h.0, exprs_fit es h.1)

      exprs_fit : (es : Exprs) → FitsExprs es → FitsExprs (exprs_with look es)
      exprs_fit no_exprs h = tt
      exprs_fit (exprs e es) h = (expr_fits e h.0, exprs_fit es h.1)

      links_fit : (ls : Links) → FitsLinks ls → FitsLinks (links_with look ls)
      links_fit no_links h = tt
      links_fit (links minus e ls) h = (expr_fits e h.0, links_fit ls h.1)

    option_fits : (o : Option Expr) → FitsOption o → FitsOption (option_with look o)
    option_fits None h = tt
    option_fits (Some e) h = expr_fits e h

-- ---- statements

some_same : (xs ys : List (List ℕ)) → length ys ≡ length xs → some_names ys ≡ some_names xs
some_same [] [] l = refl
some_same [] (y ∷ ys) l = absurd (omega (arith, l))
some_same (x ∷ xs) [] l = absurd (omega (arith, l))
some_same (x ∷ xs) (y ∷ ys) l = refl

are_names : (xs : List (List ℕ)) → ((n : List ℕ) → is_in n xs ≡ true → HasClass identifier n) → AreNames xs
are_names [] h = tt
are_names (x ∷ xs) h = (h x (or_left (bytes_eq x x) (is_in x xs) (itself x)), are_names xs (λ n e. h n (or_right (bytes_eq x n) (is_in n xs) e)))

module _ (look : List ℕ → List ℕ) (fresh : List (List ℕ)) where
  open_same : (around : Labels) (before : ℕ) (s : Stmt) → ends_open (stmt_with look fresh around before s) ≡ ends_open s
  open_same around before (block ss) = refl
  open_same around before (plain e) = refl
  open_same around before empty = refl
  open_same around before (if_only e s) = refl
  open_same around before (if_else e s r) = open_same around (before + labels_in s) r
  open_same around before (returns o) = refl
  open_same around before (while_loop e s) = open_same around before s
  open_same around before (do_while s e) = refl
  open_same around before (for_loop x y z s) = open_same around before s
  open_same around before (breaks l) = refl
  open_same around before (continues l) = refl
  open_same around before (labelled ns s) = open_same (record { olds = ns ++ around.olds; news = take (length ns) (drop before fresh) ++ around.news }) (before + length ns) s
  open_same around before (switches e cs) = refl

  labelled_same : (around : Labels) (before : ℕ) (s : Stmt) → is_labelled (stmt_with look fresh around before s) ≡ is_labelled s
  labelled_same around before (block ss) = refl
  labelled_same around before (plain e) = refl
  labelled_same around before empty = refl
  labelled_same around before (if_only e s) = refl
  labelled_same around before (if_else e s r) = refl
  labelled_same around before (returns o) = refl
  labelled_same around before (while_loop e s) = refl
  labelled_same around before (do_while s e) = refl
  labelled_same around before (for_loop x y z s) = refl
  labelled_same around before (breaks l) = refl
  labelled_same around before (continues l) = refl
  labelled_same around before (labelled ns s) = refl
  labelled_same around before (switches e cs) = refl

  clauses_there : (around : Labels) (before : ℕ) (cs : Clauses) → some_clauses (clauses_with look fresh around before cs) ≡ some_clauses cs
  clauses_there around before no_clauses = refl
  clauses_there around before (clauses v ss cs) = refl

  abbrev part : Heights → ℕ
  part h = h.as_body

  mutual
    stmt_high : (around : Labels) (before : ℕ) (s : Stmt) → stmt_heights (stmt_with look fresh around before s) ≡ stmt_heights s
    stmt_high around before (block ss) = ap block_heights (stmts_high around before ss)
    stmt_high around before (plain e) = ap (λ h. alone (1 + h)) (expr_high look e)
    stmt_high around before empty = refl
    stmt_high around before (if_only e s) = ap₂ (λ h k. alone (1 + max h (part k))) (expr_high look e) (stmt_high around before s)
    stmt_high around before (if_else e s r) = ap₂ (λ h k. alone (1 + max h k)) (expr_high look e) (ap₂ (λ h k. max (part h) (part k)) (stmt_high around before s) (stmt_high around (before + labels_in s) r))
    stmt_high around before (returns o) = ap (λ h. alone (1 + h)) (option_high look o)
    stmt_high around before (while_loop e s) = ap₂ (λ h k. alone (1 + max h (part k))) (expr_high look e) (stmt_high around before s)
    stmt_high around before (do_while s e) = ap₂ (λ h k. alone (1 + max (part h) k)) (stmt_high around before s) (expr_high look e)
    stmt_high around before (for_loop x y z s) = ap₂ (λ h k. alone (1 + max h k)) (option_high look x) (ap₂ (λ h k. max h k) (option_high look y) (ap₂ (λ h k. max h (part k)) (option_high look z) (stmt_high around before s)))
    stmt_high around before (breaks l) = refl
    stmt_high around before (continues l) = refl
    stmt_high around before (labelled ns s) = ap (λ (h : Heights). alone h.height) (stmt_high (record { olds = ns ++ around.olds; news = take (length ns) (drop before fresh) ++ around.news }) (before + length ns) s)
    stmt_high around before (switches e cs) = ap₂ (λ h k. alone (1 + max h k)) (expr_high look e) (clauses_high around before cs)

    stmts_high : (around : Labels) (before : ℕ) (ss : Stmts) → stmts_height (stmts_with look fresh around before ss) ≡ stmts_height ss
    stmts_high around before no_stmts = refl
    stmts_high around before (stmts s ss) = ap₂ (λ (h : Heights) k. max h.height k) (stmt_high around before s) (stmts_high around (before + labels_in s) ss)

    clauses_high : (around : Labels) (before : ℕ) (cs : Clauses) → clauses_height (clauses_with look fresh around before cs) ≡ clauses_height cs
    clauses_high around before no_clauses = refl
    clauses_high around before (clauses v ss cs) = ap₂ (λ h k. max h k) (stmts_high around before ss) (clauses_high around (before + labels_in_all ss) cs)

  module _ (fits : KeepsNames look) (all : (n : List ℕ) → is_in n fresh ≡ true → HasClass identifier n) where
    abbrev Named : Labels → Type 0
    Named around = (n : List ℕ) → is_in n around.news ≡ true → HasClass identifier n

    label_fits : (around : Labels) → Named around → (l : Option (List ℕ)) → FitsName l → FitsName (label_with around l)
    label_fits around w None h = tt
    label_fits around w (Some n) h = by (in_place around.olds around.news n) refl
      where
        by : (o : Option (List ℕ)) → in_place around.olds around.news n ≡ o → HasClass identifier (unwrap_or o n)
        by None e = h
        by (Some x) e = w x (in_place_is_new around.olds around.news n x e)

    given_fits : (before count : ℕ) (n : List ℕ) → is_in n (take count (drop before fresh)) ≡ true → HasClass identifier n
    given_fits before count n h = all n (subst (λ l. is_in n l ≡ true) (front_and_rest before fresh) (in_right n (take before fresh) (drop before fresh) (in_take n count (drop before fresh) h)))

    under_fits : (around : Labels) (before : ℕ) (ns : List (List ℕ)) → Named around → Named (record { olds = ns ++ around.olds; news = take (length ns) (drop before fresh) ++ around.news })
    under_fits around before ns w n h = by (in_either n (take (length ns) (drop before fresh)) around.news h)
      where
        by : (is_in n (take (length ns) (drop before fresh)) ≡ true) ⊎ (is_in n around.news ≡ true) → HasClass identifier n
        by (inl e) = given_fits before (length ns) n e
        by (inr e) = w n e

    mutual
      stmt_fits : (around : Labels) (before : ℕ) (s : Stmt) → Named around → before + labels_in s ≤ length fresh → FitsStmt s → FitsStmt (stmt_with look fresh around before s)
      stmt_fits around before (block ss) w room h = stmts_fit around before ss w room h
      stmt_fits around before (plain e) w room h = expr_fits look fits e h
      stmt_fits around before empty w room h = tt
      stmt_fits around before (if_only e s) w room h = (expr_fits look fits e h.0, stmt_fits around before s w room h.1)
      stmt_fits around before (if_else e s r) w room h =
          (expr_fits look fits e h.0, open_same around before s ∙ h.1, stmt_fits around before s w (omega (arith, room)) h.2, stmt_fits around (before + labels_in s) r w (omega (arith, room)) h.3)
      stmt_fits around before (returns o) w room h = option_fits look fits o h
      stmt_fits around before (while_loop e s) w room h = (expr_fits look fits e h.0, stmt_fits around before s w room h.1)
      stmt_fits around before (do_while s e) w room h = (stmt_fits around before s w room h.0, expr_fits look fits e h.1)
      stmt_fits around before (for_loop x y z s) w room h = (option_fits look fits x h.0, option_fits look fits y h.1, option_fits look fits z h.2, stmt_fits around before s w room h.3)
      stmt_fits around before (breaks l) w room h = label_fits around w l h
      stmt_fits around before (continues l) w room h = label_fits around w l h
      stmt_fits around before (labelled ns s) w room h =
          let r : before + length ns ≤ length fresh = omega (arith, room) in (
            some_same ns (take (length ns) (drop before fresh)) (length_part before (length ns) fresh r) ∙ h.0,
            are_names (take (length ns) (drop before fresh)) (given_fits before (length ns)),
            labelled_same (record { olds = ns ++ around.olds; news = take (length ns) (drop before fresh) ++ around.news }) (before + length ns) s ∙ h.2,
            stmt_fits (record { olds = ns ++ around.olds; news = take (length ns) (drop before fresh) ++ around.news }) (before + length ns) s (under_fits around before ns w) (omega (arith, room)) h.3,
          )
      stmt_fits around before (switches e cs) w room h = (expr_fits look fits e h.0, clauses_fit around before cs w room h.1)

      stmts_fit : (around : Labels) (before : ℕ) (ss : Stmts) → Named around → before + labels_in_all ss ≤ length fresh → FitsStmts ss → FitsStmts (stmts_with look fresh around before ss)
      stmts_fit around before no_stmts w room h = tt
      stmts_fit around before (stmts s ss) w room h = (stmt_fits around before s w (omega (arith, room)) h.0, stmts_fit around (before + labels_in s) ss w (omega (arith, room)) h.1)

      clauses_fit : (around : Labels) (before : ℕ) (cs : Clauses) → Named around → before + labels_in_clauses cs ≤ length fresh → FitsClauses cs → FitsClauses (clauses_with look fresh around before cs)
      clauses_fit around before no_clauses w room h = tt
      clauses_fit around before (clauses None ss cs) w room h = (stmts_fit around before ss w (omega (arith, room)) h.0, clauses_there around (before + labels_in_all ss) cs ∙ h.1)
      clauses_fit around before (clauses (Some v) ss cs) w room h = (h.0, stmts_fit around before ss w (omega (arith, room)) h.1, clauses_fit around (before + labels_in_all ss) cs w (omega (arith, room)) h.2)

-- ---- names of declarations and of variables

declared_fits : (m : Module) → FitsExports m.exports → KeepsNames (declared_name m)
declared_fits m h n k = by (in_place (declared_names m) (new_declared m) n) refl
  where
    kept_fits : (x : Exports) (w : List ℕ) → FitsExports x → is_name w (kept_name x) ≡ true → HasClass identifier w
    kept_fits (one f) w h e = subst (HasClass identifier) (same_name f w e) h
    kept_fits (many es) w h e = absurd (cc e)

    given_fits : (w : List ℕ) → ((is_name w (kept_name m.exports) ≡ true) × (is_in w (declared_names m) ≡ true)) ⊎ (is_in w (first_names (excluded_name (kept_name m.exports)) (length (declared_names m))) ≡ true) → HasClass identifier w
    given_fits w (inl e) = kept_fits m.exports w h e.0
    given_fits w (inr e) = first_are_identifiers (excluded_name (kept_name m.exports)) (length (declared_names m)) w e

    by : (o : Option (List ℕ)) → in_place (declared_names m) (new_declared m) n ≡ o → HasClass identifier (unwrap_or o n)
    by None e = k
    by (Some w) e = given_fits w (given_is (kept_name m.exports) (declared_names m) (first_names (excluded_name (kept_name m.exports)) (length (declared_names m))) w (in_place_is_new (declared_names m) (new_declared m) n w e))

name_in_fits : (m : Module) (f : Function) → FitsExports m.exports → KeepsNames (name_in m f)
name_in_fits m f h n k = by (in_place (local_names f) (new_locals m f) n) refl
  where
    by : (o : Option (List ℕ)) → in_place (local_names f) (new_locals m f) n ≡ o → HasClass identifier (unwrap_or o (declared_name m n))
    by None e = declared_fits m h n k
    by (Some w) e = first_are_identifiers (used_names m f) (length (local_names f)) w (in_place_is_new (local_names f) (new_locals m f) n w e)

-- ---- the module

all_map : {A B : Type 0} (P : A → Type 0) (Q : B → Type 0) (f : A → B) → ((x : A) → P x → Q (f x)) → (xs : List A) → AllByRecursion P xs → AllByRecursion Q (map f xs)
all_map P Q f h [] k = tt
all_map P Q f h (x ∷ xs) k = (h x k.0, all_map P Q f h xs k.1)

all_kept : {A : Type 0} (P Q : A → Type 0) {xs ys : List A} → Keeps P xs ys → AllByRecursion Q xs → AllByRecursion Q ys
all_kept P Q none h = tt
all_kept P Q (kept p k) h = (h.0, all_kept P Q k h.1)
all_kept P Q (left_out n k) h = all_kept P Q k h.1

length_mapped : {A B : Type 0} (f : A → B) (xs : List A) → length (map f xs) ≡ length xs
length_mapped f [] = refl
length_mapped f (x ∷ xs) = ap suc (length_mapped f xs)

leaves_mapped : {A B : Type 0} (f : A → B) (xs : List A) → leaves_height (map f xs) ≡ leaves_height xs
leaves_mapped f [] = refl
leaves_mapped f (x ∷ xs) = refl

init_fits : (look : List ℕ → List ℕ) → KeepsNames look → (i : Init) → FitsInit i → FitsInit (init_with look i)
init_fits look fits (number z) h = h
init_fits look fits (decimal bs) h = h
init_fits look fits (foreign_int f p) h = (fits f h.0, h.1)
init_fits look fits (foreign_double f p) h = (fits f h.0, h.1)
init_fits look fits (member f p) h = (fits f h.0, h.1)
init_fits look fits (math f p) h = (fits f h.0, h.1)
init_fits look fits (view f p b) h = (fits f h.0, h.1, fits b h.2)

function_fits : (m : Module) → FitsExports m.exports → (f : Function) → FitsFunction f → FitsFunction (renamed_function m f)
function_fits m x f h =
    let long = first_are_as_many [] (labels_in_all f.body) in
    record {
      name = declared_fits m x f.name h.name;
      params = all_map FitsParam FitsParam (renamed_param m f) (λ p k. name_in_fits m f x p.name k) f.params h.params;
      locals = all_map FitsLocal FitsLocal (renamed_local m f) (λ v k. (name_in_fits m f x v.name k.0, k.1)) f.locals h.locals;
      body = stmts_fit (name_in m f) (first_names [] (labels_in_all f.body)) (name_in_fits m f x) (first_are_identifiers [] (labels_in_all f.body)) no_labels 0 f.body (λ n e. absurd (cc e)) (omega (arith, long)) h.body;
    }

exports_fit : (m : Module) → FitsExports m.exports → (x : Exports) → FitsExports x → FitsExports (renamed_exports m x)
exports_fit m w (one f) h = declared_fits m w f h
exports_fit m w (many es) h = all_map FitsExport FitsExport (λ (e : Export). record e { function = declared_name m e.function }) (λ e k. (k.0, declared_fits m w e.function k.1)) es h

module _ (m : Module) (fs : List Function) (ts : List Table) (reached : Keeps (IsReached m) m.functions fs) (entered : Keeps (IsEntered m) m.tables ts) where
  pub left_fits : FitsModule m → FitsModule (renamed (rest_of m fs ts))
  left_fits h =
      let r = rest_of m fs ts in
      let few = h.few_params in
      let long = length_mapped (declared_name r) m.params in
      record {
        name = h.name;
        params = all_map (HasClass identifier) (HasClass identifier) (declared_name r) (declared_fits r h.exports) m.params h.params;
        few_params = omega (arith, few, long);
        globals = all_map FitsGlobal FitsGlobal (renamed_global r) (λ v k. (declared_fits r h.exports v.name k.0, init_fits (declared_name r) (declared_fits r h.exports) v.init k.1)) m.globals h.globals;
        functions = all_map FitsFunction FitsFunction (renamed_function r) (function_fits r h.exports) fs (all_kept (IsReached m) FitsFunction reached h.functions);
        tables = all_map FitsTable FitsTable (renamed_table r) (λ t k. (declared_fits r h.exports t.name k.0, some_same t.members (map (declared_name r) t.members) (length_mapped (declared_name r) t.members) ∙ k.1, all_map (HasClass identifier) (HasClass identifier) (declared_name r) (declared_fits r h.exports) t.members k.2)) ts (all_kept (IsEntered m) FitsTable entered h.tables);
        exports = exports_fit r h.exports m.exports h.exports;
      }

  function_high : (f : Function) → function_height (renamed_function (rest_of m fs ts) f) ≡ function_height f
  function_high f =
      let r = rest_of m fs ts in
      ap₂ (λ x y. 1 + max x y) (leaves_mapped (renamed_param r f) f.params) (ap₂ (λ x y. max x y) (leaves_mapped (renamed_local r f) f.locals) (stmts_high (name_in r f) (first_names [] (labels_in_all f.body)) no_labels 0 f.body))

  functions_lower : {P : Function → Type 0} {xs ys : List Function} → Keeps P xs ys → functions_height (map (renamed_function (rest_of m fs ts)) ys) ≤ functions_height xs
  functions_lower none = omega arith
  functions_lower (kept {x = f} p k) = let h = functions_lower k in let e = function_high f in omega (arith, h, e)
  functions_lower (left_out n k) = let h = functions_lower k in omega (arith, h)

  tables_lower : {P : Table → Type 0} {xs ys : List Table} → Keeps P xs ys → leaves_height (map (renamed_table (rest_of m fs ts)) ys) ≤ leaves_height xs
  tables_lower none = omega arith
  tables_lower (kept p k) = omega arith
  tables_lower (left_out {ys = []} n k) = omega arith
  tables_lower (left_out {ys = (y ∷ ys)} n k) = omega arith

  exports_high : (x : Exports) → exports_height (renamed_exports (rest_of m fs ts) x) ≡ exports_height x
  exports_high (one f) = refl
  exports_high (many es) = leaves_mapped (λ (e : Export). record e { function = declared_name (rest_of m fs ts) e.function }) es

  pub left_is_low : module_height (renamed (rest_of m fs ts)) ≤ module_height m
  left_is_low =
      let r = rest_of m fs ts in
      let a = leaves_mapped (renamed_global r) m.globals in
      let b = functions_lower reached in
      let c = tables_lower entered in
      let d = exports_high m.exports in
      omega (arith, a, b, c, d)

pub short_is_well_formed : (m s : Module) → IsWellFormed m → IsShort m s → IsWellFormed s
short_is_well_formed m s h k =
    let low = left_is_low m k.functions k.tables k.reached k.entered in
    let within = h.within in
    subst IsWellFormed (sym k.is_this)
    (fits_well_formed (renamed (rest_of m k.functions k.tables)) (left_fits m k.functions k.tables k.reached k.entered (well_formed_fits m h)) (omega (arith, low, within)))
