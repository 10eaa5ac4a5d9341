use Rattle.std.proofs.Common.{◌≡◌, Bool, List, [], ◌++◌, sym, ap, ◌∙◌, subst, append_assoc}
use Rattle.std.specs.Prelude.{◌↔◌, IsTrue, flat_map}
use Rattle.std.proofs.lemmas.Bool.{and_parts}
use Rattle.wasm_lang.specs.Instructions.{Instruction}
use Rattle.wat_lang.specs.declared.parts.Space.{Space}
use Rattle.wat_lang.specs.Grammar.{Marked}
use Rattle.wat_lang.specs.Names as names
use Rattle.wat_lang.specs.Modules as spec
use Rattle.wat_lang.specs.Rows.{Refusal, number_rows, use_rows, field_rows, least}
use Rattle.wat_laws_kept.specs.Groups.{labels_behind}
use Rattle.wat_laws_kept.proofs.Groups.{labels_joined, uses_joined}
use Rattle.wat_read_tokens.specs.Marks.{marks_of}
use Rattle.indexmap.proofs.MapLemmas.{OnOk-map}
use Rattle.wat_read_fields.specs.Contexts.{module_names, module_types}
use Rattle.wat_read.proofs.OpenFunctions.{code_joined, fit_both, numbered, more}
use Rattle.wat_read.proofs.functions.judge_group.Goals as goal

pub returns-clause-made : goal.returns-clause-made
returns-clause-made c = λ done h alone front.
    let g : List Marked = marks_of c.args.group.now in
    let scope : names.Names → Space → names.Names = names.names_at (module_names c.args.context) c.args.locals.now in
    let old = c.args.made.now in
    OnOk-map c.use_rows.result _ _ (λ l. record {
      labels = l ∙ ap (λ (ns : names.Names). labels_behind ns g) h.labels ∙ sym (labels_joined [] done g);
      fits = subst (λ (b : Bool). IsTrue b ↔ (number_rows (done ++ g) ≡ [])) (sym c.both-made.ensures) (fit_both old.fits c.number_rows-fits.result done g h.fits c.number_rows-fits.ensures.fit);
      code = λ t.
          let parts = and_parts old.fits c.number_rows-fits.result (sym c.both-made.ensures ∙ t) in
          c.in_ok-make_group.ensures parts.1 alone
          ∙ ap (λ (is : List Instruction). is ++ spec.instructions_in scope old.labels g) (h.code parts.0)
          ∙ ap (λ (ns : names.Names). spec.instructions_in scope [] done ++ spec.instructions_in scope ns g) h.labels
          ∙ sym (code_joined scope done g front);
    }) c.use_rows.ensures.labels

pub returns-clause-rows : goal.returns-clause-rows
returns-clause-rows c = λ done before whole hl h.
    let g : List Marked = marks_of c.args.group.now in
    let scope : names.Names → Space → names.Names = names.names_at (module_names c.args.context) c.args.locals.now in
    let fields : List Refusal = flat_map (field_rows (module_names c.args.context) (module_types c.args.context)) whole in
    let old = c.args.made.now.labels in
    OnOk-map c.use_rows.result _ _ (λ n. record {
      numbers = numbered c.args.rows.now.numbers c.number_rows-fits.new.least (before ++ done) g h.numbers c.number_rows-fits.ensures.noted
          ∙ ap (λ (ms : List Marked). least (number_rows ms)) (append_assoc before done g);
      locals = h.locals;
      fields = more c.args.rows.now.fields c.use_rows.new.least (fields ++ use_rows scope [] done) (use_rows scope old g) h.fields n
          ∙ ap least (append_assoc fields (use_rows scope [] done) (use_rows scope old g))
          ∙ ap (λ (ns : names.Names). least (fields ++ (use_rows scope [] done ++ use_rows scope ns g))) hl
          ∙ ap (λ (rs : List Refusal). least (fields ++ rs)) (sym (uses_joined scope [] done g));
    }) c.use_rows.ensures.noted
