-- Lists to which one list after another is added.
use Rattle.std.proofs.Common.{◌≡◌, List, ◌++◌, ap, ◌∙◌, append_assoc}

pub four_after : {A : Type 0} (old a b c d one two three : List A) → one ≡ old ++ a → two ≡ one ++ b → three ≡ two ++ c → three ++ d ≡ old ++ (a ++ (b ++ (c ++ d)))
four_after old a b c d one two three p q r =
    ap (λ l. l ++ d) r
    ∙ append_assoc two c d
    ∙ ap (λ l. l ++ (c ++ d)) q
    ∙ append_assoc one b (c ++ d)
    ∙ ap (λ l. l ++ (b ++ (c ++ d))) p
    ∙ append_assoc old a (b ++ (c ++ d))
