use Rattle.std.proofs.Common.{◌≡◌, ℕ, true, List, length, Some, None, Bor, refl, sym, ap, ◌∙◌, subst, arith}
use Rattle.wat_lang.specs.declared.fault.Row.TheVariants as rows
use Rattle.wat_lang.specs.Modules.{module_of}
use Rattle.wat_lang.specs.Rows.{rows_of}
use Rattle.wat_lang.specs.Texts.{IsFault}
use Rattle.wat_laws_grammar.specs.Machine.{feed, taken}
use Rattle.wat_grammar.specs.Views.{fed_to, mark_of}
use Rattle.wat_tokens.specs.Views.{class_of}
use Rattle.wat_marks.specs.Strings.{all_fit, stack_fits}
use Rattle.wat_marks.specs.Views.{IsFaultOf}
use Rattle.wat_marks.proofs.SoFar.{ends_whole, ends_short, fault_there, breaks, leaves_integers}
use Rattle.wat_marks.proofs.Keeping.{keeps_saying, keeps_silent, keeping_of, reads_so_far, is_refused}
use Rattle.wat_marks.proofs.Fitting.{feed_fits}
use Rattle.wat_marks.proofs.reading.MarkReader.next.Goals as goal

pub returns-in_default-clause-marks : goal.returns-in_default-clause-marks
returns-in_default-clause-marks c = λ source ks h.
    let has = c.loop-self.invariant.0 source ks h in
    let both : None ≡ Some has.stack = sym c.in_default.is ∙ has.has_stack in
    absurd cc

pub returns-then-stands_outside-clause-marks : goal.returns-then-stands_outside-clause-marks
returns-then-stands_outside-clause-marks c = λ source ks h.
    let has = c.loop-self.invariant.0 source ks h in
    is_refused source ks _ c.refuse.result c.outside_cause.result c.refuse.ensures.fault
    (leaves_integers source c.loop-self.self.scanner c.next.new.self c.in-Token.token has.keeping.all has.stack c.outside_cause.result
    has.keeping.reading c.in-Token.ensures (sym c.stands_outside.ensures ∙ c.if-stands_outside.true) c.outside_cause.ensures)

pub invariant_of-self-in-Some-feed-2 : goal.invariant_of-self-in-Some-feed-2
invariant_of-self-in-Some-feed-2 c =
    let fed : feed c.in-Some.stack (class_of c.in-Token.token.class) ≡ Some (taken (mark_of c.in-Ok-Some.mark) c.feed.new.self) =
    sym (c.lexeme_of.ensures c.in-Some.stack) ∙ c.in-Ok-Some.ensures ∙ ap (λ x. fed_to x c.feed.new.self) c.in-Ok-Some.field-0-is in
    let fits : all_fit c.in-Some.stack ≡ true = subst (λ x. stack_fits x ≡ true) c.in-Some.is c.loop-self.self.fits in
    record { fits = (feed_fits c.in-Some.stack (class_of c.in-Token.token.class) (taken (mark_of c.in-Ok-Some.mark) c.feed.new.self) fits fed).left }

pub invariant_of-result : goal.invariant_of-result
invariant_of-result c =
    let fed : feed c.in-Some.stack (class_of c.in-Token.token.class) ≡ Some (taken (mark_of c.in-Ok-Some.mark) c.feed.new.self) =
    sym (c.lexeme_of.ensures c.in-Some.stack) ∙ c.in-Ok-Some.ensures ∙ ap (λ x. fed_to x c.feed.new.self) c.in-Ok-Some.field-0-is in
    let fits : all_fit c.in-Some.stack ≡ true = subst (λ x. stack_fits x ≡ true) c.in-Some.is c.loop-self.self.fits in
    record { fits = (feed_fits c.in-Some.stack (class_of c.in-Token.token.class) (taken (mark_of c.in-Ok-Some.mark) c.feed.new.self) fits fed).mark }

pub returns-then-says_something-clause-marks : goal.returns-then-says_something-clause-marks
returns-then-says_something-clause-marks c = λ source ks h.
    let fed : feed c.in-Some.stack (class_of c.in-Token.token.class) ≡ Some (taken (mark_of c.in-Ok-Some.mark) c.feed.new.self) =
    sym (c.lexeme_of.ensures c.in-Some.stack) ∙ c.in-Ok-Some.ensures ∙ ap (λ x. fed_to x c.feed.new.self) c.in-Ok-Some.field-0-is in
    let has = c.loop-self.invariant.0 source ks h in
    let keeps = keeping_of source c.loop-self.self ks c.in-Some.stack has c.in-Some.is in
    reads_so_far source _ _ c.feed.new.self has.is_source refl
    (keeps_saying source c.loop-self.self.scanner c.next.new.self c.in-Token.token ks c.in-Some.stack c.feed.new.self (mark_of c.in-Ok-Some.mark) keeps
    c.in-Token.ensures (sym c.stands_outside.ensures ∙ c.if-stands_outside.false) fed (sym c.says_something.ensures ∙ c.if-says_something.true))

pub loop-self-preserved : goal.loop-self-preserved
loop-self-preserved c =
    let fed : feed c.in-Some.stack (class_of c.in-Token.token.class) ≡ Some (taken (mark_of c.in-Ok-Some.mark) c.feed.new.self) =
    sym (c.lexeme_of.ensures c.in-Some.stack) ∙ c.in-Ok-Some.ensures ∙ ap (λ x. fed_to x c.feed.new.self) c.in-Ok-Some.field-0-is in (
      λ source ks h.
          let has = c.loop-self.invariant.0 source ks h in
          let keeps = keeping_of source c.loop-self.self ks c.in-Some.stack has c.in-Some.is in
          reads_so_far source _ _ c.feed.new.self has.is_source refl
          (keeps_silent source c.loop-self.self.scanner c.next.new.self c.in-Token.token ks c.in-Some.stack c.feed.new.self (mark_of c.in-Ok-Some.mark) keeps
          c.in-Token.ensures (sym c.stands_outside.ensures ∙ c.if-stands_outside.false) fed (sym c.says_something.ensures ∙ c.if-says_something.false)),
      omega (arith, c.in-Token.ensures.0, c.loop-self.invariant.1),
    )

pub returns-in-Ok-None-clause-marks : goal.returns-in-Ok-None-clause-marks
returns-in-Ok-None-clause-marks c = λ source ks h.
    let stuck : feed c.in-Some.stack (class_of c.in-Token.token.class) ≡ None =
    sym (c.lexeme_of.ensures c.in-Some.stack) ∙ c.in-Ok-None.ensures ∙ ap (λ x. fed_to x c.feed.new.self) c.in-Ok-None.field-0-is in
    let keeps = keeping_of source c.loop-self.self ks c.in-Some.stack (c.loop-self.invariant.0 source ks h) c.in-Some.is in
    is_refused source ks _ c.refuse-in-Ok-None.result c.cause.result c.refuse-in-Ok-None.ensures.fault
    (breaks source c.loop-self.self.scanner c.next.new.self c.in-Token.token keeps.all c.in-Some.stack c.cause.result c.first_faults.ensures.first
    keeps.reading c.in-Token.ensures (sym c.stands_outside.ensures ∙ c.if-stands_outside.false) stuck c.cause.ensures)

pub returns-then-may_stop-clause-marks : goal.returns-then-may_stop-clause-marks
returns-then-may_stop-clause-marks c = λ source ks h.
    let keeps = keeping_of source c.loop-self.self ks c.in-Some.stack (c.loop-self.invariant.0 source ks h) c.in-Some.is in record {
      all = keeps.all;
      is_marked = ends_whole source c.loop-self.self.scanner keeps.all c.in-Some.stack c.derivations_are_runs.ensures.sound
          keeps.reading c.in-End.ensures (sym (c.may_stop.ensures.may c.in-Some.stack refl) ∙ c.if-may_stop.true);
      is_kept = keeps.is_kept;
      same_rows = ap rows_of keeps.is_kept ∙ c.kept_marks.ensures.rows keeps.all;
      same_module = ap module_of keeps.is_kept ∙ c.kept_marks.ensures.modules keeps.all;
    }

pub returns-in-End-clause-marks : goal.returns-in-End-clause-marks
returns-in-End-clause-marks c = λ source ks h.
    let has = c.loop-self.invariant.0 source ks h in
    let keeps = keeping_of source c.loop-self.self ks c.in-Some.stack has c.in-Some.is in
    let whole = ap (λ (b : Bor (List ℕ)). b.now) c.may_stop.ensures.source ∙ has.is_source in
    let fault = ends_short source c.loop-self.self.scanner keeps.all c.in-Some.stack c.first_faults.ensures.first
    keeps.reading c.in-End.ensures (sym (c.may_stop.ensures.may c.in-Some.stack refl) ∙ c.if-may_stop.false) in
    is_refused source ks _ c.refuse-in-End.result c.refused.result c.refuse-in-End.ensures.fault
    (subst (IsFaultOf source) (sym c.refused.ensures) (subst (λ (bs : List ℕ). IsFault source rows.Grammar (length bs)) (sym whole) fault))

pub returns-in-Fault-clause-marks : goal.returns-in-Fault-clause-marks
returns-in-Fault-clause-marks c = λ source ks h.
    let has = c.loop-self.invariant.0 source ks h in
    is_refused source ks _ c.refuse-in-Fault.result c.refused-in-Fault.result c.refuse-in-Fault.ensures.fault
    (subst (IsFaultOf source) (sym c.refused-in-Fault.ensures)
    (fault_there source c.loop-self.self.scanner has.keeping.all has.stack c.in-Fault.at has.keeping.reading c.in-Fault.ensures))

pub returns-then-says_something-clause-shorter : goal.returns-then-says_something-clause-shorter
returns-then-says_something-clause-shorter c = omega (arith, c.in-Token.ensures.0, c.loop-self.invariant.1)
