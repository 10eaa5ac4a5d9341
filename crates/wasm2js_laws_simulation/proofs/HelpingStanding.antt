-- A function that stands for one of the source has all that its code uses.
use Rattle.std.proofs.Common.{ℕ, ◌≤◌, false, List, map, refl, sym, ap, ◌∙◌, subst, arith}
use Rattle.wasm_lang.specs.declared.types.ValType.{ValType}
use Rattle.wasm_lang.specs.declared.types.GlobalType.{GlobalType}
use Rattle.wasm_lang.specs.Modules.{FunctionType, WasmModule}
use Rattle.wasm_lang.specs.Shape.{IsShaped}
use Rattle.wasm_lang_valid.specs.Profile.{memory_bytes, IsInProfile}
use Rattle.wasm_lang_valid.specs.Typing.{Context}
use Rattle.wasm_lang_exec.specs.Code.{Trees}
use Rattle.asm_lang_valid.specs.Typed.{scope_of}
use Rattle.asm_lang_exec.specs.Meaning.{call_at}
use Rattle.asm_laws_continuation.specs.Laws.{AllFollow}
use Rattle.asm_laws_continuation.proofs.Following.{calls_follow}
use Rattle.wasm2js_translation.specs.Names.{numbered, function}
use Rattle.wasm2js_translation.specs.Bodies.{body_stmts}
use Rattle.wasm2js_translation.specs.Modules.{param_names, context_of, own_function, translated}
use Rattle.wasm2js_translation.specs.Rooms.{body_room, declared_names}
use Rattle.wasm2js_translation.specs.Tables.{cell_count}
use Rattle.wasm2js_laws_scopes.specs.Provided.{Provides}
use Rattle.wasm2js_laws_scopes.proofs.Declared.{module_names_are_seen, variables_are_own}
use Rattle.wasm2js_laws_acceptance.specs.ProvidedLaws.{is_called}
use Rattle.wasm2js_laws_acceptance.proofs.ProvidedWhole.{modules_provide}
use Rattle.wasm2js_laws_places.specs.Helped.{AreHelpers}
use Rattle.wasm2js_laws_preservation.specs.ControlControl.{Function, IsFair}
use Rattle.wasm2js_laws_preservation.specs.InstructionsPlain.{Supports}
use Rattle.wasm2js_laws_preservation.specs.ComputedLaws.{IsHelped}
use Rattle.wasm2js_laws_preservation.specs.MemoryLaws.{AreOnMemory}
use Rattle.wasm2js_laws_preservation.proofs.MemoryAccessed.{accesses_are_kept}
use Rattle.wasm2js_laws_simulation.specs.HelpingHelping.{helping}
use Rattle.wasm2js_laws_simulation.specs.HelpingLaws.{SeesNames, BodiesHelp}
use Rattle.wasm2js_laws_simulation.specs.HelpingStanding.{StandsFor, IsCompared, HelpersStand, HelpersSupport, FunctionsAreHelped, AccessesAreKept}
use Rattle.wasm2js_laws_simulation.proofs.HelpingUsual.{words_are_usual}
use Rattle.wasm2js_laws_simulation.proofs.HelpingCalled.{helpers_help}

module _ (w : WasmModule) (k : ℕ) (t : FunctionType) (more : List ValType) (code : Trees) where
  -- what it declares hides no name of the module
  own_sees : SeesNames (scope_of (translated w) (own_function w k t more code))
  own_sees n h =
      let r = body_room (context_of w t more) code in
      let own = variables_are_own t.params more r in
      module_names_are_seen (translated w) (numbered function k) (param_names 0 t.params) (declared_names r _ more) (body_stmts (memory_bytes w) (cell_count w) (context_of w t more) code) n own.0 own.1 h

pub bodies_help : BodiesHelp
bodies_help w k t more code bound = helpers_help w (scope_of (translated w) (own_function w k t more code)) bound refl (own_sees w k t more code)

module _ (f : Function) (k : ℕ) (t : FunctionType) (more : List ValType) (code : Trees) (stands : StandsFor f k t more code) where
  helpers_here : AreHelpers f.scope (call_at false (translated f.home) f.bound) f.bound f.setting.bytes (helping f.setting.bytes)
  helpers_here =
      subst (λ c. AreHelpers c (call_at false (translated f.home) f.bound) f.bound f.setting.bytes (helping f.setting.bytes)) (sym stands.scope)
      (subst (λ n. AreHelpers (scope_of (translated f.home) (own_function f.home k t more code)) (call_at false (translated f.home) f.bound) f.bound n (helping n)) (sym stands.bytes)
      (bodies_help f.home k t more code f.bound))

  supports_here : 68 ≤ f.pace → Supports f (helping f.setting.bytes)
  supports_here pace = record {
    kinds = stands.kinds ∙ sym (ap (λ (c : Context). map (λ (g : GlobalType). g.kind) c.globals) stands.context);
    helpers = words_are_usual f.setting.bytes;
    pace = pace;
  }

  provides_here : IsInProfile f.home → IsShaped f.home → Provides f.scope f.context f.called f.setting.bytes f.cells
  provides_here profile shaped =
      let s = scope_of (translated f.home) (own_function f.home k t more code) in
      subst (λ c. Provides c f.context f.called f.setting.bytes f.cells) (sym stands.scope)
      (subst (λ c. Provides s c f.called f.setting.bytes f.cells) (sym stands.context)
      (subst (λ g. Provides s (context_of f.home t more) g f.setting.bytes f.cells) (sym stands.called)
      (subst (λ n. Provides s (context_of f.home t more) (is_called f.home) n f.cells) (sym stands.bytes)
      (subst (λ n. Provides s (context_of f.home t more) (is_called f.home) (memory_bytes f.home) n) (sym stands.cells)
      (modules_provide f.home profile shaped k t more code)))))

  fair_here : IsInProfile f.home → IsShaped f.home → IsCompared f → IsFair f
  fair_here profile shaped compared = record {
    keeps = compared.keeps;
    match = compared.match;
    trap = compared.trap;
    past = compared.past;
    ended = compared.ended;
    spent = compared.spent;
    some = let e = compared.pace in omega (arith, e);
    provides = provides_here profile shaped;
  }

  follows_here : AllFollow (call_at false (translated f.home) f.bound) f.calls
  follows_here = subst (λ calls. AllFollow (call_at false (translated f.home) f.bound) calls) (sym stands.calls) (calls_follow (translated f.home) f.bound)

pub helpers_stand : HelpersStand
helpers_stand f k t more code stands = helpers_here f k t more code stands

pub helpers_support : HelpersSupport
helpers_support f k t more code stands pace = supports_here f k t more code stands pace

-- its helpers on the memory
on_memory_here : (bytes : ℕ) → AreOnMemory bytes (helping bytes)
on_memory_here bytes = record {
  readers = record { load_32 = λ args heap. (refl, refl); load_64 = λ args heap. (refl, refl) };
  writers = record { store_32 = λ args heap. (refl, refl); store_64 = λ args heap. (refl, refl) };
  movers = record { fill = λ args heap. (refl, refl); copy = λ args heap. (refl, refl) };
}

module _ (f : Function) (k : ℕ) (t : FunctionType) (more : List ValType) (code : Trees) (profile : IsInProfile f.home) (shaped : IsShaped f.home) (stands : StandsFor f k t more code)
    (compared : IsCompared f) where
  abbrev helped_here : IsHelped f
  helped_here = record {
    fair = fair_here f k t more code stands profile shaped compared;
    calls = call_at false (translated f.home) f.bound;
    follow = follows_here f k t more code stands;
    helping = helping f.setting.bytes;
    helpers = helpers_here f k t more code stands;
    supports = supports_here f k t more code stands compared.pace;
  }

pub functions_are_helped : FunctionsAreHelped
functions_are_helped f k t more code profile shaped stands compared = helped_here f k t more code profile shaped stands compared

pub standing_accesses_are_kept : AccessesAreKept
standing_accesses_are_kept f k t more code profile shaped stands compared p h pays =
    accesses_are_kept f (helped_here f k t more code profile shaped stands compared) (on_memory_here f.setting.bytes) p h pays
