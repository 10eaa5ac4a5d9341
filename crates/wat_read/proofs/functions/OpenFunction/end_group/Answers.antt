use Rattle.std.proofs.Common.{◌≡◌, ◌⊎◌, inr, true, false, List, [], ◌++◌, drop, sym, ap, ◌∙◌, subst, append-nil}
use Rattle.wat_lang.specs.declared.parts.Space.{Space}
use Rattle.wat_lang.specs.Grammar.{Marked}
use Rattle.wat_lang.specs.Names as names
use Rattle.wat_lang.specs.Rows.{use_rows, locals_of}
use Rattle.wat_laws_kept.specs.Groups.{begins_instruction, no_instruction}
use Rattle.wat_marks.specs.declared.marked.MarkedToken.{MarkedToken}
use Rattle.wat_read_tokens.specs.Marks.{marks_of}
use Rattle.wat_read.specs.Judged.{HasRows}
use Rattle.wat_read_fields.specs.Contexts.{module_names, module_types}
use Rattle.wat_read.specs.Making.{HasMadeCode}
use Rattle.wat_read.proofs.functions.OpenFunction.end_group.Goals as goal

pub returns-clause-whole : goal.returns-clause-whole
returns-clause-whole c = λ f before whole h e.
    let names_of : Space → names.Names = module_names c.args.context in
    let types = module_types c.args.context in
    let fn = h.function in
    let done : List Marked = h.done in
    let old = c.args.self.now in
    let slice : List MarkedToken = c.as_slice.result.now in
    let cut : slice ≡ old.group.items = c.as_slice.ensures.value in
    let locals : old.locals ≡ locals_of names_of types f = fn.locals e in
    let whole_is : done ++ marks_of slice ≡ f.parts = ap (λ (ts : List MarkedToken). done ++ marks_of ts) cut ∙ sym fn.parts in
    let begun : HasMadeCode names_of old.locals old.made done = subst (λ (ns : names.Names). HasMadeCode names_of ns old.made done) (sym locals) fn.made in
    let alone = subst (λ (ts : List MarkedToken). no_instruction (drop 1 (marks_of ts)) ≡ true) (sym cut) fn.alone in
    let front = subst (λ (ts : List MarkedToken). done ≡ [] ⊎ begins_instruction (marks_of ts) ≡ true) (sym cut) fn.front in
    let made = c.in_ok-judge_group.ensures.made done begun alone front in
    let noted = subst (λ (ns : names.Names). HasRows names_of types c.args.rows.now (before ++ done) whole (use_rows (names.names_at names_of ns) [] done)) (sym locals) h.rows in
    let rows = c.in_ok-judge_group.ensures.rows done before whole fn.made.labels noted in
    record {
      function = record {
        is_function = fn.is_function;
        parts = sym (ap (λ (ts : List MarkedToken). f.parts ++ marks_of ts) c.clear.ensures.items ∙ append-nil f.parts);
        heads = fn.heads;
        alone = ap (λ (ts : List MarkedToken). no_instruction (drop 1 (marks_of ts))) c.clear.ensures.items;
        front = inr (ap (λ (ts : List MarkedToken). begins_instruction (marks_of ts)) c.clear.ensures.items);
        before = λ n. let both : true ≡ false = sym e ∙ n in absurd cc;
        locals = fn.locals;
        made = subst (λ (ns : names.Names). HasMadeCode names_of ns c.judge_group.new.made f.parts) locals
            (subst (λ (ms : List Marked). HasMadeCode names_of old.locals c.judge_group.new.made ms) whole_is made);
      };
      rows = subst (λ (ns : names.Names). HasRows names_of types c.judge_group.new.rows (before ++ f.parts) whole (use_rows (names.names_at names_of ns) [] f.parts)) locals
          (subst (λ (ms : List Marked). HasRows names_of types c.judge_group.new.rows (before ++ ms) whole (use_rows (names.names_at names_of old.locals) [] ms)) whole_is rows);
      in_code = e;
      group = c.clear.ensures.items;
    }
