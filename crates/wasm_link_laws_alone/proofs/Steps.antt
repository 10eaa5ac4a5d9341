-- One reduction of a pair whose second module is empty, and the run of a configuration, are those of the first module.
use Rattle.std.proofs.Common.{◌≡◌, ℕ, zero, suc, ◌+◌, ◌<◌, Bool, true, false, List, [], ◌∷◌, ◌++◌, length, replicate, Option, Some, None, refl, sym, ap, ◌∙◌, arith, append-nil}
use Rattle.std.specs.Prelude.{slice_get, option_map, nat_eq, nat_lt, not, ◌&&◌, if◌then◌else◌}
use Rattle.std.specs.Cmp.Lexicographic.{pointwise}
use Rattle.std.proofs.lemmas.Option.{slice_get_past}
use Rattle.sem_words.specs.declared.word.Word.{Word}
use Rattle.sem_words.specs.declared.word.Word.TheVariants.{W32, W64}
use Rattle.sem_words.specs.declared.word.TrapKind.TheVariants as kinds
use Rattle.session_lang.specs.Observation.{trapped}
use Rattle.wasm_lang.specs.Instructions.{const32, const64}
use Rattle.wasm_lang.specs.Modules.{Imported, WasmModule}
use Rattle.wasm_lang_valid.specs.Measures.{env_name, is_given, is_function_import}
use Rattle.wasm_lang_exec.specs.Code.{unreachable, block, loop, if_block, br, br_if, br_table, return, call, call_indirect, plain, Trees, ε, ◌▹◌}
use Rattle.wasm_lang_exec.specs.Store.{Store}
use Rattle.wasm_lang_exec.specs.Plain.{do_plain}
use Rattle.wasm_lang_exec.specs.Reductions as alone
use Rattle.wasm_lang_exec.specs.Reductions.{callee_at, callees, found, of_type, do_call, Config, Code, Label, Frame, Reduct, to, is_values, branches, returns, stops, is_stuck}
use Rattle.wasm_lang_exec.specs.Session as machine
use Rattle.wasm_lang_exec.specs.Session.{Run, finished, spent, over, with_none, with_one}
use Rattle.wasm_laws_sound.specs.Laws.{IsWhole}
use Rattle.wasm_link_lang.specs.Pairs.{Pair, past_first, bound_to, function_imports, first_bindings, bound, bindings, next, import_count, stands_for, bound_or_itself, all_types, callee_of, called}
use Rattle.wasm_link_lang.specs.Reductions.{entries, entry, call_entry, reduce_code, reduce}
use Rattle.wasm_link_lang.specs.Session.{run}
use Rattle.wasm_link_laws_modules.proofs.Facts.{Every, every_both, every_mapped, lt_test, lt_false}
use Rattle.wasm_link_laws_alone.specs.Laws.{empty, with_empty}
use Rattle.wasm_link_laws_alone.proofs.TableStays.{table_stays}
use Rattle.wasm_link_laws_alone.proofs.Fine.{FineCode, IsFine, IsFineReduct, fine_effect, fine_chosen, fine_choice, fine_call, fine_entry, fine_label, fine_frame}

either : (b : Bool) (o : Option ℕ) → (if b then o else o) ≡ o
either true o = refl
either false o = refl

module _ (m : WasmModule) where
  abbrev w : Pair
  w = with_empty m

  -- ---- nothing is bound

  abbrev IsNone : Option ℕ → Type 0
  IsNone o = o ≡ None

  not_bound : (i : Imported) → bound_to empty i ≡ None
  not_bound i = either (is_function_import i.kind && pointwise nat_eq i.module_name env_name && not (is_given i)) None

  none_bound : Every IsNone (first_bindings w)
  none_bound = every_mapped IsNone (λ i. option_map (λ f. (past_first w).functions + f) (bound_to empty i)) (function_imports m.imports) (λ i x h. ap (option_map (λ f. (past_first w).functions + f)) (not_bound x))

  none_repeated : (n : ℕ) → Every IsNone (replicate n None)
  none_repeated zero i o h = absurd (cc h)
  none_repeated (suc n) zero o h = let e : None ≡ o = cc h in sym e
  none_repeated (suc n) (suc i) o h = none_repeated n i o h

  no_bindings : Every IsNone (bindings w)
  no_bindings =
      every_both IsNone (first_bindings w ++ replicate (length m.functions) None) [] (every_both IsNone (first_bindings w) (replicate (length m.functions) None) none_bound (none_repeated (length m.functions)))
      (λ i o h. absurd (cc h))

  no_next : (a : ℕ) → next w a ≡ None
  no_next a = by (slice_get (bindings w) a) refl
    where
      by : (o : Option (Option ℕ)) → slice_get (bindings w) a ≡ o → bound o ≡ None
      by None e = refl
      by (Some o) e = no_bindings a o e

  pub called_alone : (a : ℕ) → called w a ≡ callee_at m a
  called_alone a =
      ap (λ o. callee_of w (bound_or_itself o a (stands_for (import_count w) w))) (no_next a)
      ∙ ap (λ cs. found (slice_get cs a)) (append-nil (callees m))

  -- ---- the table

  entry_alone : (t i : ℕ) (s : Store) → t < length m.types → length s.table ≡ entries m → entry w t i s ≡ slice_get s.table i
  entry_alone t i s named many =
      ap (λ b. if b then (if nat_lt i (entries m) then slice_get s.table i else None) else (if nat_lt i (entries empty) then slice_get s.table (entries m + i) else None)) (lt_test t (length m.types) named)
      ∙ by (nat_lt i (entries m)) refl
    where
      by : (b : Bool) → nat_lt i (entries m) ≡ b → (if b then slice_get s.table i else None) ≡ slice_get s.table i
      by true e = refl
      by false e = let past = lt_false i (entries m) e in sym (slice_get_past s.table i (omega (arith, past, many)))

  call_alone : (t : ℕ) (o : Option (Option ℕ)) (values : List Word) (code : Trees) (locals : List Word) (s : Store) → call_entry w t o values code locals s ≡ alone.call_entry m t o values code locals s
  call_alone t None values code locals s = refl
  call_alone t (Some None) values code locals s = refl
  call_alone t (Some (Some a)) values code locals s =
      ap (λ c. if of_type (slice_get (all_types w) t) c then do_call c values code locals s else stops (trapped kinds.OtherType) s) (called_alone a)
      ∙ ap (λ ts. if of_type (slice_get ts t) (callee_at m a) then do_call (callee_at m a) values code locals s else stops (trapped kinds.OtherType) s) (append-nil m.types)

  -- ---- one reduction

  module _ (whole : IsWhole m) where
    abbrev Same : ℕ → Reduct → Reduct → Type 0
    Same n r r' = (r ≡ r') × IsFineReduct m n r'

    code_alone : (locals : List Word) (s : Store) → length s.table ≡ entries m → (code : Trees) (values : List Word) → FineCode m code
        → Same (length s.table) (reduce_code w code values locals s) (alone.reduce_code m code values locals s)
    code_alone locals s many ε values fine = (refl, tt)
    code_alone locals s many (plain (const32 n) ▹ code) values fine = code_alone locals s many code (W32 n ∷ values) fine.1
    code_alone locals s many (plain (const64 n) ▹ code) values fine = code_alone locals s many code (W64 n ∷ values) fine.1
    code_alone locals s many (plain p ▹ code) values fine = (refl, fine_effect m locals s (do_plain p values locals s) code fine.1 (table_stays locals s p values))
    code_alone locals s many (unreachable ▹ code) values fine = (refl, tt)
    code_alone locals s many (block r body ▹ code) values fine = (refl, ((tt, fine.1, fine.2), refl))
    code_alone locals s many (loop r body ▹ code) values fine = (refl, (((tt, fine.1, tt), fine.1, fine.2), refl))
    code_alone locals s many (if_block r first second ▹ code) [] fine = (refl, tt)
    code_alone locals s many (if_block r first second ▹ code) (W32 c ∷ values) fine = (refl, ((tt, fine_chosen m locals s c first second fine.1 fine.2, fine.3), refl))
    code_alone locals s many (if_block r first second ▹ code) (W64 c ∷ values) fine = (refl, tt)
    code_alone locals s many (br l ▹ code) values fine = (refl, tt)
    code_alone locals s many (br_if l ▹ code) [] fine = (refl, tt)
    code_alone locals s many (br_if l ▹ code) (W32 c ∷ values) fine = (refl, fine_choice m locals s c l values code fine.1)
    code_alone locals s many (br_if l ▹ code) (W64 c ∷ values) fine = (refl, tt)
    code_alone locals s many (br_table ls d ▹ code) [] fine = (refl, tt)
    code_alone locals s many (br_table ls d ▹ code) (W32 i ∷ values) fine = (refl, tt)
    code_alone locals s many (br_table ls d ▹ code) (W64 i ∷ values) fine = (refl, tt)
    code_alone locals s many (return ▹ code) values fine = (refl, tt)
    code_alone locals s many (call f ▹ code) values fine = (ap (λ c. do_call c values code locals s) (called_alone f), fine_call m locals s whole f values code fine.1)
    code_alone locals s many (call_indirect t ▹ code) [] fine = (refl, tt)
    code_alone locals s many (call_indirect t ▹ code) (W32 i ∷ values) fine = (
      ap (λ o. call_entry w t o values code locals s) (entry_alone t i s fine.0 many) ∙ call_alone t (slice_get s.table i) values code locals s,
      fine_entry m locals s whole t (slice_get s.table i) values code fine.1,
    )
    code_alone locals s many (call_indirect t ▹ code) (W64 i ∷ values) fine = (refl, tt)

    reduce_alone : (c : Config) (locals : List Word) (s : Store) → length s.table ≡ entries m → IsFine m c → Same (length s.table) (reduce w c locals s) (alone.reduce m c locals s)
    reduce_alone (Code values code) locals s many fine = code_alone locals s many code values fine
    reduce_alone (Label values n more inside code) locals s many fine =
        let it = reduce_alone inside locals s many fine.1 in (
          ap (λ r. alone.reduce_label m r values n more code locals s) it.0,
          fine_label m locals s (alone.reduce m inside locals s) values n more code fine.0 fine.2 it.1,
        )
    reduce_alone (Frame values n inner inside code) locals s many fine =
        let it = reduce_alone inside inner s many fine.0 in (
          ap (λ r. alone.reduce_frame m r values n code locals s) it.0,
          fine_frame m locals s (alone.reduce m inside inner s) values n code fine.1 it.1,
        )

    -- ---- runs

    abbrev pub KeepsTable : Run → Type 0
    KeepsTable (finished vs s n) = length s.table ≡ entries m
    KeepsTable (spent s) = Unit {0}
    KeepsTable (over e s) = Unit {0}

    abbrev SameRun : Run → Run → Type 0
    SameRun r r' = (r ≡ r') × KeepsTable r'

    run_none : (r : Reduct) (s : Store) → length s.table ≡ entries m → KeepsTable (with_none r s)
    run_none (to c ls s1) s many = tt
    run_none (is_values vs) s many = many
    run_none (branches j vs) s many = tt
    run_none (returns vs) s many = tt
    run_none (stops e s1) s many = tt
    run_none is_stuck s many = tt

    abbrev Further : ℕ → Type 0
    Further n = (c : Config) (locals : List Word) (s : Store) → length s.table ≡ entries m → IsFine m c → SameRun (run w n c locals s) (machine.run m n c locals s)

    run_one : (n : ℕ) → Further n → (r : Reduct) (s : Store) → length s.table ≡ entries m → IsFineReduct m (length s.table) r → SameRun (with_one (run w n) n r s) (with_one (machine.run m n) n r s)
    run_one n further (to c ls s1) s many fine = further c ls s1 (fine.1 ∙ many) fine.0
    run_one n further (is_values vs) s many fine = (refl, many)
    run_one n further (branches j vs) s many fine = (refl, tt)
    run_one n further (returns vs) s many fine = (refl, tt)
    run_one n further (stops e s1) s many fine = (refl, tt)
    run_one n further is_stuck s many fine = (refl, tt)

    pub run_alone : (n : ℕ) → Further n
    run_alone zero c locals s many fine =
        let it = reduce_alone c locals s many fine in (ap (λ r. with_none r s) it.0, run_none (alone.reduce m c locals s) s many)
    run_alone (suc n) c locals s many fine =
        let it = reduce_alone c locals s many fine in
        let one = run_one n (run_alone n) (alone.reduce m c locals s) s many it.1 in (ap (λ r. with_one (run w n) n r s) it.0 ∙ one.0, one.1)
