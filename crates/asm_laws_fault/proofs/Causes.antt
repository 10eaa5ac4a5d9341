-- A fault of a text is one of its bytes or one of its tokens.
use Rattle.std.proofs.Common.{◌≡◌, ℕ, List, inl, inr, refl}
use Rattle.asm_lang_tokens.specs.Text as bytes
use Rattle.asm_lang.specs.Kinds.{Kind, negative_zero, missing_use}
use Rattle.asm_lang.specs.Kinds as kinds
use Rattle.asm_lang.specs.Texts.{AtToken, Fault, non_ascii, bad_token, open_comment, literal_form, grammar, no_use_asm, height, IsFault}

abbrev pub byte_fault : bytes.Fault → Fault
byte_fault bytes.non_ascii = non_ascii
byte_fault bytes.bad_token = bad_token
byte_fault bytes.open_comment = open_comment
byte_fault bytes.literal_form = literal_form

abbrev pub token_fault : Kind → Fault
token_fault negative_zero = literal_form
token_fault missing_use = no_use_asm
token_fault kinds.grammar = grammar
token_fault kinds.height = height

pub data Cause (text : List ℕ) (f : Fault) (at : ℕ) : Type 0 where
  of_bytes : (b : bytes.Fault) → bytes.HasFault text b at → f ≡ byte_fault b → Cause text f at
  of_tokens : (a : Kind) → AtToken text a at → f ≡ token_fault a → Cause text f at

pub cause : (text : List ℕ) (f : Fault) (at : ℕ) → IsFault text f at → Cause text f at
cause text non_ascii at h = of_bytes bytes.non_ascii h refl
cause text bad_token at h = of_bytes bytes.bad_token h refl
cause text open_comment at h = of_bytes bytes.open_comment h refl
cause text literal_form at (inl h) = of_bytes bytes.literal_form h refl
cause text literal_form at (inr h) = of_tokens negative_zero h refl
cause text grammar at h = of_tokens kinds.grammar h refl
cause text no_use_asm at h = of_tokens missing_use h refl
cause text height at h = of_tokens kinds.height h refl

pub byte_fault_is : (text : List ℕ) (b : bytes.Fault) (at : ℕ) → bytes.HasFault text b at → IsFault text (byte_fault b) at
byte_fault_is text bytes.non_ascii at h = h
byte_fault_is text bytes.bad_token at h = h
byte_fault_is text bytes.open_comment at h = h
byte_fault_is text bytes.literal_form at h = inl h

pub token_fault_is : (text : List ℕ) (a : Kind) (at : ℕ) → AtToken text a at → IsFault text (token_fault a) at
token_fault_is text negative_zero at h = inr h
token_fault_is text missing_use at h = h
token_fault_is text kinds.grammar at h = h
token_fault_is text kinds.height at h = h
