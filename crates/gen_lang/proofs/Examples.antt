-- Texts that the check computes.
use Rattle.std.proofs.Common.{◌≡◌, ◌++◌, length, refl, codes}
use Rattle.std.specs.Fmt.{digits}
use Rattle.gen_lang.specs.Recipe.{recipe, summary}

one_function : recipe 1 ≡ codes "function gen(stdlib,foreign,heap){\"use asm\";var H=new stdlib.Int32Array(heap);\nfunction f0(x){x=x|0;return x|0;}\nreturn f0;}\n"
unfolding digits
one_function = refl

three_functions : recipe 3 ≡ codes "function gen(stdlib,foreign,heap){\"use asm\";var H=new stdlib.Int32Array(heap);\n"
    ++ codes "function f0(x){x=x|0;return x|0;}\nfunction f1(x){x=x|0;x=(f0(x)|0)+1|0;H[1]=x;return x|0;}\n"
    ++ codes "function f2(x){x=x|0;x=(f1(x)|0)+2|0;H[2]=x;return x|0;}\nreturn f2;}\n"
unfolding digits
three_functions = refl

bytes_of_200 : length (recipe 200) ≡ 12628
unfolding digits
bytes_of_200 = refl

said : summary 3 12 345 6789 ≡ codes "functions 3\nasm 12\nwasm 345\njs 6789\n"
unfolding digits
said = refl
