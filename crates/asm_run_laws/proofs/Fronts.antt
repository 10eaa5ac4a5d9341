-- The code of a part ends with the code that comes after it.
use Rattle.std.proofs.Common.{ℕ, zero, suc, ◌≤◌, Bool, true, false, List, [], ◌∷◌, ◌++◌, length, Option, Some, None, ℤ, pos, ◌||◌, refl, ap, ◌∙◌, arith, append_assoc}
use Rattle.std.specs.Prelude.{◌==◌, ◌+ℤ◌, if◌then◌else◌}
use Rattle.std.proofs.lemmas.List.{length-append}
use Rattle.heap_lang.specs.declared.kind.ViewKind.{ViewKind}
use Rattle.asm_lang.specs.Modules.{Expr, lit, decimal, var, index, call, table_call, assign, store, unary, binary, chain, cond, comma, Exprs, no_exprs, exprs, Links, no_links, links}
use Rattle.asm_lang_valid.specs.declared.meaning.Builtin.TheVariants.{Imul, Clz32}
use Rattle.asm_lang_valid.specs.Scope.{Meaning, nothing, an_int, an_outside, a_foreign, a_builtin, a_view, a_function, a_table, a_parameter}
use Rattle.asm_lang_valid.specs.Typing.{Scope, named, exprs_length, or_zero}
use Rattle.asm2wasm_translation.specs.Values.{is_unsigned}
use Rattle.asm_run_code.specs.declared.op.Operator.{Operator}
use Rattle.asm_run_code.specs.declared.op.Operator.TheVariants as operators
use Rattle.asm_run_code.specs.declared.op.Op.{Op}
use Rattle.asm_run_code.specs.declared.op.Op.TheVariants.{Go, Copy}
use Rattle.asm_run_code.specs.Operators.{operator_of, link_operator}
use Rattle.asm_run_code.specs.Names.{local_slot, global_slot, view_kind, local, Seat, a_number, a_local, elsewhere, seat}
use Rattle.asm_run_code.specs.Values.{Before, into, copied, seated, combined, assigned, stored, stays, sum_slot, linked, chained, chosen, called, value, arguments, product, zeros, sums, last}
use Rattle.asm_lang.specs.Modules as text
use Rattle.asm_lang.specs.Modules.{Stmt, if_only, if_else, returns, while_loop, do_while, for_loop, breaks, continues, labelled, switches, empty, Stmts, no_stmts, stmts, Clauses, no_clauses, clauses}
use Rattle.asm_lang_valid.specs.Typing.{values}
use Rattle.asm_lang_exec.specs.Meaning.{before_default}
use Rattle.sem_words.specs.Words.{word_of}
use Rattle.asm2wasm_translation.specs.Bodies.{low, span, is_dense}
use Rattle.asm_run_code.specs.declared.op.Op.TheVariants.{Choose, Again}
use Rattle.asm_run_code.specs.Bodies.{Around, a_loop, a_switch, a_named, Placed, start_of, case_ops, target_ops, dispatched, switched, part, condition, condition_if, looped, stmt, stmts_code, clauses_code}
use Rattle.asm_run_laws.specs.Frames.{Ends}

pub ends_on : (a b c : List Op) → Ends a b → Ends b c → Ends a c
ends_on a b c h k = (h.0 ++ k.0, append_assoc h.0 k.0 c ∙ ap (λ t. h.0 ++ t) k.1 ∙ h.1)

pub ends_here : (a : List Op) → Ends a a
ends_here a = ([], refl)

pub ends_after : (op : Op) (rest : List Op) → Ends (op ∷ rest) rest
ends_after op rest = (op ∷ [], refl)

pub ends_length : (a b : List Op) → Ends a b → length b ≤ length a
ends_length a b h = let e = length-append h.0 b in let l = ap length h.1 in omega (arith, e, l)

abbrev pub Passing : Before → Type 0
Passing code = (rest : List Op) → Ends (code rest) rest

pub copied_passes : (wanted : Option ℕ) (from : ℕ) → Passing (λ rest. copied wanted from rest)
copied_passes None from rest = ends_here rest
copied_passes (Some to) from rest = by (to == from)
  where
    by : (b : Bool) → Ends (if b then rest else Copy to from ∷ rest) rest
    by true = ends_here rest
    by false = ends_after (Copy to from) rest

pub seated_passes : (o : Option ℕ) (d : ℕ) (code : Before) (op : ℕ → Op) → Passing code → Passing (λ rest. seated o d code op rest)
seated_passes (Some a) d code op h rest = ends_after (op a) rest
seated_passes None d code op h rest = ends_on (code (op d ∷ rest)) (op d ∷ rest) rest (h (op d ∷ rest)) (ends_after (op d) rest)

pub both_pass : (first second : Before) → Passing first → Passing second → Passing (λ rest. first (second rest))
both_pass first second h k rest = ends_on (first (second rest)) (second rest) rest (h (second rest)) (k rest)

pub then_passes : (code : Before) (op : Op) → Passing code → Passing (λ rest. code (op ∷ rest))
then_passes code op h rest = ends_on (code (op ∷ rest)) (op ∷ rest) rest (h (op ∷ rest)) (ends_after op rest)

pub combined_passes : (seat : Seat) (o : Option ℕ) (op : Operator) (to d : ℕ) (first second : Before) → Passing first → Passing second → Passing (λ rest. combined seat o op to d first second rest)
combined_passes (a_number n) o op to d first second h k rest = seated_passes o d first _ h rest
combined_passes (a_local y) o op to d first second h k rest = seated_passes o d first _ h rest
combined_passes elsewhere o op to d first second h k rest = both_pass first (λ rest. second (_ ∷ rest)) h (then_passes second _ k) rest

assigned_passes : (o : Option ℕ) (g : ℕ) (wanted : Option ℕ) (d : ℕ) (code : ℕ → Before) → ((to : ℕ) → Passing (code to)) → Passing (λ rest. assigned o g wanted d code rest)
assigned_passes (Some y) g wanted d code h rest = both_pass (code y) (λ rest. copied wanted y rest) (h y) (copied_passes wanted y) rest
assigned_passes None g wanted d code h rest = then_passes (code (into wanted d)) _ (h (into wanted d)) rest

stored_passes : (seat : Seat) (o : Option ℕ) (kind : ViewKind) (wanted : Option ℕ) (d : ℕ) (first second : Before) → Passing first → Passing second → Passing (λ rest. stored seat o kind wanted d first second rest)
stored_passes (a_local y) o kind wanted d first second h k rest = ends_on _ (copied wanted y rest) rest (seated_passes o d first _ h (copied wanted y rest)) (copied_passes wanted y rest)
stored_passes (a_number n) o kind wanted d first second h k rest = ends_on _ (copied wanted (suc d) rest) rest (both_pass first (λ rest. second (_ ∷ rest)) h (then_passes second _ k) (copied wanted (suc d) rest)) (copied_passes wanted (suc d) rest)
stored_passes elsewhere o kind wanted d first second h k rest = ends_on _ (copied wanted (suc d) rest) rest (both_pass first (λ rest. second (_ ∷ rest)) h (then_passes second _ k) (copied wanted (suc d) rest)) (copied_passes wanted (suc d) rest)

pub linked_passes : (seat : Seat) (op : Operator) (to a d : ℕ) (code : Before) → Passing code → Passing (λ rest. linked seat op to a d code rest)
linked_passes (a_number n) op to a d code h rest = ends_after _ rest
linked_passes (a_local y) op to a d code h rest = ends_after _ rest
linked_passes elsewhere op to a d code h rest = then_passes code _ h rest

chained_passes : (o : Option ℕ) (to d : ℕ) (first more : ℕ → Before) → ((to : ℕ) → Passing (first to)) → ((a : ℕ) → Passing (more a)) → Passing (λ rest. chained o to d first more rest)
chained_passes (Some a) to d first more h k rest = k a rest
chained_passes None to d first more h k rest = both_pass (first to) (more d) (h to) (k d) rest

pub chosen_passes : (o : Option ℕ) (d : ℕ) (condition first : Before) (second rest : List Op) → Passing condition → Passing first → Ends second rest → Ends (chosen o d condition first second rest) rest
chosen_passes o d condition first second rest h k l =
    ends_on _ (first (Go (length rest) ∷ second)) rest (seated_passes o d condition _ h (first (Go (length rest) ∷ second)))
    (ends_on _ (Go (length rest) ∷ second) rest (k (Go (length rest) ∷ second)) (ends_on _ second rest (ends_after _ second) l))

called_passes : (c : Scope) (mm : Meaning) (n : List ℕ) (count : ℕ) (wanted : Option ℕ) (d : ℕ) (arguments product zeros : Before) → Passing arguments → Passing product → Passing zeros
    → Passing (λ rest. called c mm n count wanted d arguments product zeros rest)
called_passes c (a_function f) n count wanted d arguments product zeros h k l rest = ends_on _ (copied wanted d rest) rest (then_passes arguments _ h (copied wanted d rest)) (copied_passes wanted d rest)
called_passes c (a_foreign f) n count wanted d arguments product zeros h k l rest = ends_on _ (copied wanted d rest) rest (then_passes arguments _ h (copied wanted d rest)) (copied_passes wanted d rest)
called_passes c (a_builtin Imul) n count wanted d arguments product zeros h k l rest = k rest
called_passes c (a_builtin Clz32) n count wanted d arguments product zeros h k l rest = l rest
called_passes c nothing n count wanted d arguments product zeros h k l rest = h rest
called_passes c an_int n count wanted d arguments product zeros h k l rest = h rest
called_passes c an_outside n count wanted d arguments product zeros h k l rest = h rest
called_passes c (a_view v) n count wanted d arguments product zeros h k l rest = h rest
called_passes c (a_table t) n count wanted d arguments product zeros h k l rest = h rest
called_passes c a_parameter n count wanted d arguments product zeros h k l rest = h rest

module _ (c : Scope) where
  mutual
    unfolding value

    pub value_passes : (e : Expr) (wanted : Option ℕ) (d : ℕ) → Passing (λ rest. value c wanted d e rest)
    value_passes (lit z) wanted d rest = ends_after _ rest
    value_passes (decimal bs) wanted d rest = ends_here rest
    value_passes (var n) wanted d rest = ends_after _ rest
    value_passes (index n i) wanted d rest = seated_passes (local c i) d _ _ (value_passes i (Some d) d) rest
    value_passes (call n es) wanted d rest = called_passes c (named c n) n (exprs_length es) wanted d _ _ _ (arguments_pass es d) (product_passes es (into wanted d) d) (zeros_pass es (into wanted d) d) rest
    value_passes (table_call n i es) wanted d rest =
        ends_on _ _ rest (value_passes i (Some d) d (arguments c (suc d) es (_ ∷ copied wanted (suc d) rest)))
        (ends_on _ (copied wanted (suc d) rest) rest (then_passes (λ more. arguments c (suc d) es more) _ (arguments_pass es (suc d)) (copied wanted (suc d) rest)) (copied_passes wanted (suc d) rest))
    value_passes (assign n e) wanted d rest = assigned_passes (local_slot c n) (global_slot c n) wanted d _ (λ to. value_passes e (Some to) d) rest
    value_passes (store n i e) wanted d rest = stored_passes (seat c e) (local c i) (view_kind (named c n)) wanted d _ _ (value_passes i (Some d) d) (value_passes e (Some (suc d)) (suc d)) rest
    value_passes (unary op e) wanted d rest = seated_passes (local c e) d _ _ (value_passes e (Some d) d) rest
    value_passes (binary op l r) wanted d rest = by (or_zero op r) (value_passes l wanted d) (value_passes l (Some d) d) (value_passes r (Some (suc d)) (suc d))
      where
        by : (b : Bool) → Passing (λ rest. value c wanted d l rest) → Passing (λ rest. value c (Some d) d l rest) → Passing (λ rest. value c (Some (suc d)) (suc d) r rest)
            → Ends (if b then value c wanted d l rest else combined (seat c r) (local c l) (operator_of op (is_unsigned l || is_unsigned r)) (into wanted d) d (λ more. value c (Some d) d l more) (λ more. value c (Some (suc d)) (suc d) r more) rest) rest
        by true h k j = h rest
        by false h k j = combined_passes (seat c r) (local c l) (operator_of op (is_unsigned l || is_unsigned r)) (into wanted d) d (λ more. value c (Some d) d l more) (λ more. value c (Some (suc d)) (suc d) r more) k j rest
    value_passes (chain e ls) wanted d rest = chained_passes (stays c (local c e) ls) (sum_slot wanted d ls) d _ _ (λ to. value_passes e (Some to) d) (λ a. sums_pass ls wanted a d) rest
    value_passes (cond e a b) wanted d rest = chosen_passes (local c e) d _ _ _ rest (value_passes e (Some d) d) (value_passes a wanted d) (value_passes b wanted d rest)
    value_passes (comma es) wanted d rest = last_passes es wanted d rest

    pub arguments_pass : (es : Exprs) (d : ℕ) → Passing (λ rest. arguments c d es rest)
    arguments_pass no_exprs d rest = ends_here rest
    arguments_pass (exprs e es) d rest = both_pass (λ more. value c (Some d) d e more) (λ more. arguments c (suc d) es more) (value_passes e (Some d) d) (arguments_pass es (suc d)) rest

    product_passes : (es : Exprs) (to d : ℕ) → Passing (λ rest. product c to d es rest)
    product_passes no_exprs to d rest = ends_here rest
    product_passes (exprs l no_exprs) to d rest = ends_here rest
    product_passes (exprs l (exprs r es)) to d rest = combined_passes (seat c r) (local c l) operators.Mul to d _ _ (value_passes l (Some d) d) (value_passes r (Some (suc d)) (suc d)) rest

    zeros_pass : (es : Exprs) (to d : ℕ) → Passing (λ rest. zeros c to d es rest)
    zeros_pass no_exprs to d rest = ends_here rest
    zeros_pass (exprs e es) to d rest = seated_passes (local c e) d _ _ (value_passes e (Some d) d) rest

    pub sums_pass : (ls : Links) (wanted : Option ℕ) (a d : ℕ) → Passing (λ rest. sums c wanted a d ls rest)
    sums_pass no_links wanted a d rest = ends_here rest
    sums_pass (links minus e ls) wanted a d rest =
        ends_on _ (sums c wanted d d ls rest) rest (linked_passes (seat c e) (link_operator minus) (sum_slot wanted d ls) a d _ (value_passes e (Some (suc d)) (suc d)) (sums c wanted d d ls rest)) (sums_pass ls wanted d d rest)

    pub last_passes : (es : Exprs) (wanted : Option ℕ) (d : ℕ) → Passing (λ rest. last c wanted d es rest)
    last_passes no_exprs wanted d rest = ends_here rest
    last_passes (exprs e no_exprs) wanted d rest = value_passes e wanted d rest
    last_passes (exprs e (exprs x es)) wanted d rest = both_pass (λ more. value c None d e more) (λ more. last c wanted d (exprs x es) more) (value_passes e None d) (last_passes (exprs x es) wanted d) rest

-- ---- statements

pub cases_pass : (a : ℕ) (cs : Clauses) (starts : List ℕ) → Passing (λ rest. case_ops a cs starts rest)
cases_pass a no_clauses starts rest = ends_here rest
cases_pass a (clauses v ss cs) [] rest = ends_here rest
cases_pass a (clauses None ss cs) (k ∷ starts) rest = cases_pass a cs starts rest
cases_pass a (clauses (Some v) ss cs) (k ∷ starts) rest = ends_on _ (case_ops a cs starts rest) rest (ends_after _ (case_ops a cs starts rest)) (cases_pass a cs starts rest)

module _ (c : Scope) where
  pub part_passes : (o : Option Expr) (d : ℕ) → Passing (λ rest. part c d o rest)
  part_passes None d rest = ends_here rest
  part_passes (Some e) d rest = value_passes c e None d rest

  pub condition_passes : (e : Expr) (d at : ℕ) → Passing (λ rest. condition c d e at rest)
  condition_passes e d at rest = seated_passes (local c e) d _ _ (value_passes c e (Some d) d) rest

  pub condition_if_passes : (o : Option Expr) (d at : ℕ) → Passing (λ rest. condition_if c d o at rest)
  condition_if_passes None d at rest = ends_here rest
  condition_if_passes (Some e) d at rest = condition_passes e d at rest

  pub dispatched_passes : (cs : Clauses) (starts : List ℕ) (a : ℕ) → Passing (λ rest. dispatched cs starts a rest)
  dispatched_passes cs starts a rest = by (is_dense (values cs))
    where
      targets_pass : (n : ℕ) (z : ℤ) → Passing (λ rest. target_ops n z cs starts rest)
      targets_pass zero z rest = ends_here rest
      targets_pass (suc n) z rest = ends_on _ (target_ops n (z +ℤ pos 1) cs starts rest) rest (ends_after _ (target_ops n (z +ℤ pos 1) cs starts rest)) (targets_pass n (z +ℤ pos 1) rest)

      by : (b : Bool) → Ends (if b then Choose a (word_of 32 (low (values cs))) (suc (span (values cs))) ∷ target_ops (suc (span (values cs))) (low (values cs)) cs starts (Go (start_of starts (before_default cs)) ∷ rest)
          else case_ops a cs starts (Go (start_of starts (before_default cs)) ∷ rest)) rest
      by true =
          let more = Go (start_of starts (before_default cs)) ∷ rest in
          let table = target_ops (suc (span (values cs))) (low (values cs)) cs starts more in
          ends_on (_ ∷ table) table rest (ends_after _ table) (ends_on table more rest (targets_pass (suc (span (values cs))) (low (values cs)) more) (ends_after _ rest))
      by false = let more = Go (start_of starts (before_default cs)) ∷ rest in ends_on (case_ops a cs starts more) more rest (cases_pass a cs starts more) (ends_after _ rest)

  switched_passes : (o : Option ℕ) (d : ℕ) (code : Before) (cs : Clauses) (placed : Placed) (rest : List Op) → Passing code → Ends placed.code rest → Ends (switched o d code cs placed) rest
  switched_passes (Some a) d code cs placed rest h k = ends_on _ placed.code rest (dispatched_passes cs placed.starts a placed.code) k
  switched_passes None d code cs placed rest h k =
      ends_on _ (dispatched cs placed.starts d placed.code) rest (h (dispatched cs placed.starts d placed.code)) (ends_on _ placed.code rest (dispatched_passes cs placed.starts d placed.code) k)

  looped_passes : (d : ℕ) (test : Before) (body : ℕ → Before) (step rest : List Op) → Passing test → ((at : ℕ) → Passing (body at)) → Ends step rest → Ends (looped c d test body step) rest
  looped_passes d test body step rest h k l =
      ends_on _ (test (body (length step) step)) rest (ends_after _ (test (body (length step) step)))
      (ends_on _ (body (length step) step) rest (h (body (length step) step)) (ends_on _ step rest (k (length step) step) l))

  mutual
    unfolding stmt

    pub stmt_passes : (t : Stmt) (around : List Around) (own : List (List ℕ)) (d : ℕ) → Passing (λ rest. stmt c around own d t rest)
    stmt_passes (text.block ss) around own d rest = stmts_pass ss around d rest
    stmt_passes (text.plain e) around own d rest = value_passes c e None d rest
    stmt_passes empty around own d rest = ends_here rest
    stmt_passes (if_only e t) around own d rest = ends_on _ (stmt c around [] d t rest) rest (condition_passes e d (length rest) (stmt c around [] d t rest)) (stmt_passes t around [] d rest)
    stmt_passes (if_else e t r) around own d rest = chosen_passes (local c e) d _ _ _ rest (value_passes c e (Some d) d) (stmt_passes t around [] d) (stmt_passes r around [] d rest)
    stmt_passes (returns None) around own d rest = ends_on _ (_ ∷ rest) rest (ends_after _ (_ ∷ rest)) (ends_after _ rest)
    stmt_passes (returns (Some e)) around own d rest = seated_passes (local c e) d _ _ (value_passes c e (Some d) d) rest
    stmt_passes (while_loop e t) around own d rest =
        looped_passes d _ _ (Again d ∷ rest) rest (condition_passes e (suc d) (length rest)) (λ at. stmt_passes t (a_loop own at (length rest) ∷ around) [] (suc d)) (ends_after _ rest)
    stmt_passes (do_while t e) around own d rest =
        looped_passes d _ _ (condition c (suc d) e (length rest) (Again d ∷ rest)) rest (λ more. ends_here more) (λ at. stmt_passes t (a_loop own at (length rest) ∷ around) [] (suc d))
        (ends_on _ (Again d ∷ rest) rest (condition_passes e (suc d) (length rest) (Again d ∷ rest)) (ends_after _ rest))
    stmt_passes (for_loop i y z t) around own d rest =
        let step = part c (suc d) z (Again d ∷ rest) in
        ends_on _ _ rest (part_passes i d _)
        (looped_passes d _ _ step rest (condition_if_passes y (suc d) (length rest)) (λ at. stmt_passes t (a_loop own at (length rest) ∷ around) [] (suc d))
        (ends_on step (Again d ∷ rest) rest (part_passes z (suc d) (Again d ∷ rest)) (ends_after _ rest)))
    stmt_passes (breaks n) around own d rest = ends_after _ rest
    stmt_passes (continues n) around own d rest = ends_after _ rest
    stmt_passes (labelled ns t) around own d rest = stmt_passes t (a_named ns (length rest) ∷ around) ns d rest
    stmt_passes (switches e cs) around own d rest =
        switched_passes (local c e) d _ cs (clauses_code c (a_switch (length rest) ∷ around) d cs rest) rest (value_passes c e (Some d) d) (clauses_pass cs (a_switch (length rest) ∷ around) d rest)

    pub stmts_pass : (ss : Stmts) (around : List Around) (d : ℕ) → Passing (λ rest. stmts_code c around d ss rest)
    stmts_pass no_stmts around d rest = ends_here rest
    stmts_pass (stmts t ss) around d rest = ends_on _ (stmts_code c around d ss rest) rest (stmt_passes t around [] d (stmts_code c around d ss rest)) (stmts_pass ss around d rest)

    pub clauses_pass : (cs : Clauses) (around : List Around) (d : ℕ) (rest : List Op) → Ends (clauses_code c around d cs rest).code rest
    clauses_pass no_clauses around d rest = ends_here rest
    clauses_pass (clauses v ss cs) around d rest = ends_on _ (clauses_code c around d cs rest).code rest (stmts_pass ss around d (clauses_code c around d cs rest).code) (clauses_pass cs around d rest)
