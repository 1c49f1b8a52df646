-- What begins between statements, and the same with more bytes.
use Rattle.std.proofs.Common.{◌≡◌, ◌==◌, ℕ, suc, ◌+◌, ◌<◌, ◌≤◌, Bool, true, false, cond, List, [], ◌∷◌, ◌++◌, length, drop, refl, sym, ap, ◌∙◌, arith, subst}
use Rattle.std.specs.Prelude.{codes}
use Rattle.std.specs.List.{prefix_len}
use Rattle.std.proofs.lemmas.Bool.Decides.{nat_tests}
use Rattle.std.proofs.lemmas.List.{length-drop, drop-append-le, drop_all}
use Rattle.std.proofs.lemmas.List.Folds.{prefix_len-append}
use Rattle.std.proofs.lemmas.List.Sums.{prefix_len-le-length}
use Rattle.plain_data.specs.Byte.{is_white}
use Rattle.splitter_forms.specs.Pieces.{begins, is_front_of, is_dollar, dollars_line, delimiter_line, line_opening, dash_opening, slash_opening, opening}
use Rattle.splitter_forms.specs.declared.delimiter.Delimiter.TheVariants.{Semicolon, Dollars}
use Rattle.splitter_forms.specs.declared.opening.Opening.{Opening}
use Rattle.splitter_forms.specs.declared.opening.Opening.TheVariants.{Nothing, White, Comment, DelimiterLine, Statement, Undecided}
use Rattle.splitter_forms.specs.declared.opening.CommentEnd.TheVariants.{LineFeed, StarSlash}
use Rattle.statement_splitter.proofs.Words.{begins_more, neither_more, begins_long}

-- more bytes than so many don't change it
abbrev pub IsSure : ℕ → Opening → Type 0
IsSure n Nothing = ⊥
IsSure n White = Unit {0}
IsSure n (Comment size end) = size < n
IsSure n (DelimiterLine size ending) = Unit {0}
IsSure n Statement = Unit {0}
IsSure n Undecided = ⊥

-- it fits into so many bytes, and has some
abbrev pub HasRoom : ℕ → Opening → Type 0
HasRoom n White = 0 < n
HasRoom n (Comment size end) = (0 < size) × (size ≤ n)
HasRoom n (DelimiterLine size ending) = (0 < size) × (size ≤ n)
HasRoom n opening = Unit {0}

if_stays : (n : ℕ) (test : Bool) (x y x' y' : Opening) → (IsSure n x → x' ≡ x) → (IsSure n y → y' ≡ y) → IsSure n (cond test x y) → cond test x' y' ≡ cond test x y
if_stays n true x y x' y' f g s = f s
if_stays n false x y x' y' f g s = g s

if_room : (n : ℕ) (test : Bool) (x y : Opening) → (test ≡ true → HasRoom n x) → (test ≡ false → HasRoom n y) → HasRoom n (cond test x y)
if_room n true x y f g = f refl
if_room n false x y f g = g refl

word_by : (n : ℕ) (word bytes more : List ℕ) (x y x' y' : Opening) (b f : Bool) → begins word bytes ≡ b → is_front_of word bytes ≡ f → (b ≡ true → IsSure n x → x' ≡ x) → (IsSure n y → y' ≡ y) → IsSure n (cond b x (cond f Undecided y)) → cond (begins word (bytes ++ more)) x' (cond (is_front_of word (bytes ++ more)) Undecided y') ≡ cond b x (cond f Undecided y)
word_by n word bytes more x y x' y' true f whole front at_word at_other s =
    let still = begins_more word bytes more whole in rw still (at_word refl s)
word_by n word bytes more x y x' y' false true whole front at_word at_other s = absurd s
word_by n word bytes more x y x' y' false false whole front at_word at_other s =
    let still = neither_more word bytes more whole front in
    let first = still.0 in
    let second = still.1 in
    rw (first, second) (at_other s)

dollars_at : (n size : ℕ) (bytes more : List ℕ) → IsSure n (dollars_line size bytes) → dollars_line size (bytes ++ more) ≡ dollars_line size bytes
dollars_at n size [] more s = absurd s
dollars_at n size (b ∷ bs) more s = refl

more_dollars : (bytes more : List ℕ) → prefix_len is_dollar bytes < length bytes → prefix_len is_dollar (bytes ++ more) ≡ prefix_len is_dollar bytes
more_dollars bytes more some = let e = prefix_len-append is_dollar bytes more in grind (arith, nat_tests)

dollars_end : (n : ℕ) (bytes : List ℕ) → IsSure n (dollars_line (prefix_len is_dollar bytes) (drop (prefix_len is_dollar bytes) bytes)) → length bytes ≤ prefix_len is_dollar bytes → ⊥
dollars_end n bytes s all = subst (λ t. IsSure n (dollars_line (prefix_len is_dollar bytes) t)) (drop_all (prefix_len is_dollar bytes) bytes all) s

dollars_stay : (n : ℕ) (bytes more : List ℕ) → IsSure n (dollars_line (prefix_len is_dollar bytes) (drop (prefix_len is_dollar bytes) bytes)) → dollars_line (prefix_len is_dollar (bytes ++ more)) (drop (prefix_len is_dollar (bytes ++ more)) (bytes ++ more)) ≡ dollars_line (prefix_len is_dollar bytes) (drop (prefix_len is_dollar bytes) bytes)
dollars_stay n bytes more s =
    let ended = dollars_end n bytes s in
    let within : prefix_len is_dollar bytes ≤ length bytes = prefix_len-le-length is_dollar bytes in
    let some : prefix_len is_dollar bytes < length bytes = omega arith in
    ap (λ k. dollars_line k (drop k (bytes ++ more))) (more_dollars bytes more some)
    ∙ ap (dollars_line (prefix_len is_dollar bytes)) (drop-append-le (prefix_len is_dollar bytes) bytes more within)
    ∙ dollars_at n (prefix_len is_dollar bytes) (drop (prefix_len is_dollar bytes) bytes) more s

delimiter_stays : (n : ℕ) (bytes more : List ℕ) → IsSure n (delimiter_line bytes) → delimiter_line (bytes ++ more) ≡ delimiter_line bytes
delimiter_stays n bytes more s =
    word_by n (codes ";\n") bytes more _ _ _ _ (begins (codes ";\n") bytes) (is_front_of (codes ";\n") bytes) refl refl (λ _ _. refl) (dollars_stay n bytes more) s

line_stays : (n : ℕ) (bytes more : List ℕ) → IsSure n (line_opening bytes) → line_opening (bytes ++ more) ≡ line_opening bytes
line_stays n bytes more s =
    word_by n (codes "DELIMITER ") bytes more (delimiter_line (drop 10 bytes)) Statement (delimiter_line (drop 10 (bytes ++ more))) Statement (begins (codes "DELIMITER ") bytes) (is_front_of (codes "DELIMITER ") bytes) refl refl
    (λ is sure. ap delimiter_line (drop-append-le 10 bytes more (begins_long (codes "DELIMITER ") bytes is)) ∙ delimiter_stays n (drop 10 bytes) more sure)
    (λ _. refl)
    s

dash_stays : (n : ℕ) (bytes more : List ℕ) → IsSure n (dash_opening bytes) → dash_opening (bytes ++ more) ≡ dash_opening bytes
dash_stays n bytes more s =
    word_by n (codes "- ") bytes more _ _ _ _ (begins (codes "- ") bytes) (is_front_of (codes "- ") bytes) refl refl (λ _ _. refl) (λ _. refl) s

slash_one : (n b : ℕ) (more : List ℕ) (star : Bool) → n < 3 → (b == 42) ≡ star → IsSure n (cond star (Comment 2 StarSlash) Statement) → slash_opening (b ∷ more) ≡ cond star (Comment 2 StarSlash) Statement
slash_one n b more true short is s = absurd (let l : 2 < n = s in omega arith)
slash_one n b more false short is s = let other : (42 == b) ≡ false = grind (arith, nat_tests) in rw (other, is)

slash_stays : (n : ℕ) (bytes more : List ℕ) → n ≡ suc (length bytes) → IsSure n (slash_opening bytes) → slash_opening (bytes ++ more) ≡ slash_opening bytes
slash_stays n [] more long s = absurd s
slash_stays n (b ∷ c ∷ bs) more long s = refl
slash_stays n (b ∷ []) more long s =
    let same : slash_opening (b ∷ []) ≡ cond (b == 42) (Comment 2 StarSlash) Statement = grind (arith, nat_tests) in
    slash_one n b more (b == 42) (omega arith) refl (subst (IsSure n) same s) ∙ sym same

-- an opening that is sure is the same with more bytes
pub opening_stays : (fresh : Bool) (bytes more : List ℕ) → IsSure (length bytes) (opening fresh bytes) → opening fresh (bytes ++ more) ≡ opening fresh bytes
opening_stays fresh [] more s = absurd s
opening_stays fresh (byte ∷ bytes) more s =
    let n : ℕ = suc (length bytes) in
    if_stays n (is_white byte) _ _ _ _ (λ _. refl)
    (if_stays n (byte == 35) _ _ _ _ (λ _. refl)
    (if_stays n (byte == 45) _ _ _ _ (dash_stays n bytes more)
    (if_stays n (byte == 47) _ _ _ _ (slash_stays n bytes more refl)
    (if_stays n fresh _ _ _ _ (line_stays n (byte ∷ bytes) more) (λ _. refl)))))
    s

dollars_room : (n size : ℕ) (bytes : List ℕ) → 10 + size + length bytes ≤ n → HasRoom n (dollars_line size bytes)
dollars_room n size [] long = tt
dollars_room n size (b ∷ bs) long = if_room n _ (DelimiterLine (11 + size) (Dollars size)) Statement (λ _. (omega arith, omega arith)) (λ _. tt)

delimiter_room : (n : ℕ) (bytes : List ℕ) → length bytes + 10 ≤ n → HasRoom n (delimiter_line bytes)
delimiter_room n bytes long =
    let within : prefix_len is_dollar bytes ≤ length bytes = prefix_len-le-length is_dollar bytes in
    if_room n (begins (codes ";\n") bytes) (DelimiterLine 12 Semicolon) _ (λ is. (let l = begins_long (codes ";\n") bytes is in (omega arith, omega arith)))
    (λ _. if_room n (is_front_of (codes ";\n") bytes) _ _ (λ _. tt)
    (λ _. dollars_room n (prefix_len is_dollar bytes) (drop (prefix_len is_dollar bytes) bytes) (omega (arith, length-drop (prefix_len is_dollar bytes) bytes))))

line_room : (n : ℕ) (bytes : List ℕ) → length bytes ≡ n → HasRoom n (line_opening bytes)
line_room n bytes long =
    if_room n (begins (codes "DELIMITER ") bytes) _ _ (λ is. (let l = begins_long (codes "DELIMITER ") bytes is in delimiter_room n (drop 10 bytes) (omega (arith, length-drop 10 bytes))))
    (λ _. if_room n (is_front_of (codes "DELIMITER ") bytes) _ _ (λ _. tt) (λ _. tt))

dash_room : (n : ℕ) (bytes : List ℕ) → suc (length bytes) ≡ n → HasRoom n (dash_opening bytes)
dash_room n bytes long =
    if_room n (begins (codes "- ") bytes) (Comment 3 LineFeed) _ (λ is. (let l = begins_long (codes "- ") bytes is in (omega arith, omega arith)))
    (λ _. if_room n (is_front_of (codes "- ") bytes) _ _ (λ _. tt) (λ _. tt))

slash_room : (n : ℕ) (bytes : List ℕ) → suc (length bytes) ≡ n → HasRoom n (slash_opening bytes)
slash_room n [] long = tt
slash_room n (b ∷ bs) long =
    if_room n (begins (codes "*!") (b ∷ bs)) _ _ (λ _. tt)
    (λ _. if_room n (b == 42) (Comment 2 StarSlash) Statement (λ _. (omega arith, omega arith)) (λ _. tt))

pub opening_room : (fresh : Bool) (bytes : List ℕ) → HasRoom (length bytes) (opening fresh bytes)
opening_room fresh [] = tt
opening_room fresh (byte ∷ bytes) =
    let n : ℕ = suc (length bytes) in
    if_room n (is_white byte) _ _ (λ _. omega arith)
    (λ _. if_room n (byte == 35) (Comment 1 LineFeed) _ (λ _. (omega arith, omega arith))
    (λ _. if_room n (byte == 45) _ _ (λ _. dash_room n bytes refl)
    (λ _. if_room n (byte == 47) _ _ (λ _. slash_room n bytes refl)
    (λ _. if_room n fresh _ _ (λ _. line_room n (byte ∷ bytes) refl) (λ _. tt)))))
