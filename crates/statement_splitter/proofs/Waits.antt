-- Bytes that more bytes decide may be passed over.
use Rattle.std.proofs.Common.{◌≡◌, ◌==◌, ◌&&◌, ◌⊎◌, inl, inr, ℕ, ◌+◌, Bool, true, false, cond, List, [], ◌∷◌, ◌++◌, length, drop, None, refl, sym, ap, ◌∙◌, arith, subst, length-append}
use Rattle.std.specs.Prelude.{codes, nat_eq, nat_le}
use Rattle.std.specs.List.{prefix_len}
use Rattle.std.proofs.lemmas.Bool.Decides.{nat_tests}
use Rattle.std.proofs.lemmas.List.{length-drop, drop-drop, drop_at, drop_all, append_assoc}
use Rattle.std.proofs.lemmas.List.Folds.{prefix_len-append}
use Rattle.std.proofs.lemmas.List.Sums.{prefix_len-le-length, prefix_len_passes}
use Rattle.plain_data.specs.Byte.{is_white}
use Rattle.splitter_forms.specs.Pieces.{begins, is_front_of, is_dollar, dollars_line, delimiter_line, line_opening, dash_opening, slash_opening, opening, UnreadText, with_more, unread_past, next, next_size, step, step_by, further}
use Rattle.splitter_forms.specs.declared.delimiter.Delimiter.{Delimiter}
use Rattle.splitter_forms.specs.declared.delimiter.Delimiter.TheVariants.{Semicolon, Dollars}
use Rattle.splitter_forms.specs.declared.opening.Opening.{Opening}
use Rattle.splitter_forms.specs.declared.opening.Opening.TheVariants.{White, Comment, DelimiterLine, Statement, Undecided}
use Rattle.splitter_forms.specs.declared.opening.CommentEnd.TheVariants.{LineFeed, StarSlash}
use Rattle.statement_splitter.proofs.Words.{begins_split, front_completed, front_cons, front_empty, same_back}
use Rattle.statement_splitter.proofs.Nexts.{further_here}

-- no statement begins the bytes
pub record IsSettled (fresh : Bool) (bytes : List ℕ) : Type 0 where
  pub none : (ending : Delimiter) (offset : ℕ) → next_size (next (record { ending = ending; fresh = fresh; offset = offset; rest = bytes })) ≡ None

dashes : (fresh : Bool) → IsSettled fresh (codes "-- ")
unfolding next
dashes fresh = record { none = λ ending offset. refl }

slash_star : (fresh : Bool) → IsSettled fresh (codes "/*")
unfolding next
slash_star fresh = record { none = λ ending offset. refl }

semicolon_line : IsSettled true (codes "DELIMITER ;\n")
unfolding next
semicolon_line = record { none = λ ending offset. refl }

-- a line that sets some dollars
dollars_text : List ℕ → List ℕ
dollars_text dollars = codes "DELIMITER " ++ (dollars ++ codes "$$\n")

more_of_them : (dollars : List ℕ) → prefix_len is_dollar dollars ≡ length dollars → prefix_len is_dollar (dollars ++ codes "$$\n") ≡ length dollars + 2
more_of_them dollars all = let e = prefix_len-append is_dollar dollars (codes "$$\n") in grind (arith, nat_tests)

after_them : (dollars : List ℕ) → drop (length dollars + 2) (dollars ++ codes "$$\n") ≡ 10 ∷ []
after_them dollars =
    sym (drop-drop 2 (length dollars) (dollars ++ codes "$$\n")) ∙ ap (drop 2) (drop_at dollars (codes "$$\n") (length dollars) refl)

enough : (n : ℕ) → dollars_line (n + 2) (10 ∷ []) ≡ DelimiterLine (11 + (n + 2)) (Dollars (n + 2))
enough n = let two : nat_le 2 (n + 2) ≡ true = grind (arith, nat_tests) in rw two

dollars_opening : (fresh : Bool) (b : ℕ) (bs : List ℕ) → fresh ≡ true → b ≡ 36 → prefix_len is_dollar (b ∷ bs) ≡ length (b ∷ bs) → opening fresh (dollars_text (b ∷ bs)) ≡ DelimiterLine (11 + (length (b ∷ bs) + 2)) (Dollars (length (b ∷ bs) + 2))
unfolding dollars_text
dollars_opening fresh b bs is dollar all =
    let other : nat_eq 59 b ≡ false = grind (arith, nat_tests) in
    let none : is_front_of (codes ";\n") (b ∷ bs ++ codes "$$\n") ≡ false = front_cons 59 b (10 ∷ []) (bs ++ codes "$$\n") ∙ (rw (same_back 59 b false other)) in
    let count = more_of_them (b ∷ bs) all in
    let rest = after_them (b ∷ bs) in
    rw is (rw (other, none) (ap (λ k. dollars_line k (drop k (b ∷ bs ++ codes "$$\n"))) count ∙ ap (dollars_line (length (b ∷ bs) + 2)) rest ∙ enough (length (b ∷ bs))))

nothing_left : (u : UnreadText) → u.rest ≡ [] → next_size (next u) ≡ None
unfolding next
nothing_left u none = rw none

dollars_settled : (fresh : Bool) (b : ℕ) (bs : List ℕ) → fresh ≡ true → b ≡ 36 → prefix_len is_dollar (b ∷ bs) ≡ length (b ∷ bs) → IsSettled fresh (dollars_text (b ∷ bs))
unfolding dollars_text
dollars_settled fresh b bs is dollar all = record {
  none = λ ending offset.
      let u : UnreadText = record { ending = ending; fresh = fresh; offset = offset; rest = dollars_text (b ∷ bs) } in
      let size : ℕ = length (b ∷ bs) + 2 in
      let over : step u ≡ further (unread_past (11 + size) true (Dollars size) u) = ap (step_by u) (dollars_opening fresh b bs is dollar all) in
      let left : drop (11 + size) (dollars_text (b ∷ bs)) ≡ [] = drop_all (11 + size) (dollars_text (b ∷ bs)) (simp length-append (omega arith)) in
      ap next_size (further_here u (unread_past (11 + size) true (Dollars size) u) over) ∙ nothing_left (unread_past (11 + size) true (Dollars size) u) left;
}

-- some bytes after these settle them
CanSettle : Bool → List ℕ → Type 0
CanSettle fresh bytes = (more : List ℕ) × IsSettled fresh (bytes ++ more)

settles_as : (fresh : Bool) (bytes more whole : List ℕ) → bytes ++ more ≡ whole → IsSettled fresh whole → CanSettle fresh bytes
unfolding CanSettle
settles_as fresh bytes more whole is settled = (more, subst (IsSettled fresh) (sym is) settled)

-- which way bytes are undecided that begin with a word, or else
word_ways : (b f : Bool) (x y : Opening) → cond b x (cond f Undecided y) ≡ Undecided → ((b ≡ true) × (x ≡ Undecided)) ⊎ ((f ≡ true) ⊎ ((f ≡ false) × (y ≡ Undecided)))
word_ways true f x y is = inl (refl, is)
word_ways false true x y is = inr (inl refl)
word_ways false false x y is = inr (inr (refl, is))

dash_settles : (fresh : Bool) (byte : ℕ) (bytes : List ℕ) → byte ≡ 45 → dash_opening bytes ≡ Undecided → CanSettle fresh (byte ∷ bytes)
dash_settles fresh byte bytes dash is =
    elim (word_ways (begins (codes "- ") bytes) (is_front_of (codes "- ") bytes) (Comment 3 LineFeed) Statement is) [
      | inl w ↦ absurd (let h = w.1 in cc)
      | inr w ↦ elim w [
        | inl front ↦ settles_as fresh (byte ∷ bytes) (drop (length bytes) (codes "- ")) (codes "-- ") (let e = front_completed (codes "- ") bytes front in cc) (dashes fresh)
        | inr v ↦ absurd (let h = v.1 in cc)
      ]
    ]

slash_sure : (whole star : Bool) → cond whole Statement (cond star (Comment 2 StarSlash) Statement) ≡ Undecided → ⊥
slash_sure true star is = cc
slash_sure false true is = cc
slash_sure false false is = cc

dollars_sure : (enough : Bool) (n : ℕ) → cond enough (DelimiterLine (11 + n) (Dollars n)) Statement ≡ Undecided → ⊥
dollars_sure true n is = cc
dollars_sure false n is = cc

slash_settles : (fresh : Bool) (byte : ℕ) (bytes : List ℕ) → byte ≡ 47 → slash_opening bytes ≡ Undecided → CanSettle fresh (byte ∷ bytes)
slash_settles fresh byte [] slash is = settles_as fresh (byte ∷ []) (codes "*") (codes "/*") (cc) (slash_star fresh)
slash_settles fresh byte (b ∷ bs) slash is = absurd (slash_sure (begins (codes "*!") (b ∷ bs)) (b == 42) is)

line_dollars : (bytes : List ℕ) → is_front_of (codes ";\n") bytes ≡ false → prefix_len is_dollar bytes ≡ length bytes → (fresh : Bool) → fresh ≡ true → IsSettled fresh (dollars_text bytes)
line_dollars [] front all fresh is = absurd (let e = front_empty 59 (10 ∷ []) in cc)
line_dollars (b ∷ bs) front all fresh is =
    let dollar : b ≡ 36 = (let first : (b == 36) ≡ true = prefix_len_passes is_dollar (b ∷ bs) 0 0 (omega arith) in grind (arith, nat_tests)) in
    dollars_settled fresh b bs is dollar all

all_dollars : (n : ℕ) (rest : List ℕ) → dollars_line n rest ≡ Undecided → rest ≡ []
all_dollars n [] is = refl
all_dollars n (b ∷ bs) is = absurd (dollars_sure (nat_le 2 n && b == 10) n is)

delimiter_settles : (fresh : Bool) (bytes after_word : List ℕ) → fresh ≡ true → codes "DELIMITER " ++ after_word ≡ bytes → delimiter_line after_word ≡ Undecided → CanSettle fresh bytes
unfolding dollars_text
delimiter_settles fresh bytes after_word is parts undecided =
    elim (word_ways (begins (codes ";\n") after_word) (is_front_of (codes ";\n") after_word) (DelimiterLine 12 Semicolon) (dollars_line (prefix_len is_dollar after_word) (drop (prefix_len is_dollar after_word) after_word)) undecided) [
      | inl w ↦ absurd (let h = w.1 in cc)
      | inr w ↦ elim w [
        | inl front ↦ (
            let more : List ℕ = drop (length after_word) (codes ";\n") in
            let whole = front_completed (codes ";\n") after_word front in
            settles_as fresh bytes more (codes "DELIMITER ;\n") (ap (λ t. t ++ more) (sym parts) ∙ append_assoc (codes "DELIMITER ") after_word more ∙ ap (λ t. codes "DELIMITER " ++ t) whole) (subst (λ f. IsSettled f (codes "DELIMITER ;\n")) (sym is) semicolon_line))
        | inr v ↦ (
            let none : drop (prefix_len is_dollar after_word) after_word ≡ [] = all_dollars (prefix_len is_dollar after_word) _ v.1 in
            let all : prefix_len is_dollar after_word ≡ length after_word = omega (arith, prefix_len-le-length is_dollar after_word, length-drop (prefix_len is_dollar after_word) after_word, ap length none) in
            settles_as fresh bytes (codes "$$\n") (dollars_text after_word) (ap (λ t. t ++ codes "$$\n") (sym parts) ∙ append_assoc (codes "DELIMITER ") after_word (codes "$$\n")) (line_dollars after_word v.0 all fresh is))
      ]
    ]

line_settles : (fresh : Bool) (bytes : List ℕ) → fresh ≡ true → line_opening bytes ≡ Undecided → CanSettle fresh bytes
line_settles fresh bytes is undecided =
    elim (word_ways (begins (codes "DELIMITER ") bytes) (is_front_of (codes "DELIMITER ") bytes) (delimiter_line (drop 10 bytes)) Statement undecided) [
      | inl w ↦ delimiter_settles fresh bytes (drop 10 bytes) is (begins_split (codes "DELIMITER ") bytes w.0) w.1
      | inr w ↦ elim w [
        | inl front ↦ (
            let rest : List ℕ = drop (length bytes) (codes "DELIMITER ") in
            let whole = front_completed (codes "DELIMITER ") bytes front in
            settles_as fresh bytes (rest ++ codes ";\n") (codes "DELIMITER ;\n") (sym (append_assoc bytes rest (codes ";\n")) ∙ ap (λ t. t ++ codes ";\n") whole) (subst (λ f. IsSettled f (codes "DELIMITER ;\n")) (sym is) semicolon_line))
        | inr v ↦ absurd (let h = v.1 in cc)
      ]
    ]

settles_by : (fresh : Bool) (byte : ℕ) (bytes : List ℕ) (white hash dash slash line : Bool) → (byte == 45) ≡ dash → (byte == 47) ≡ slash → fresh ≡ line → cond white White (cond hash (Comment 1 LineFeed) (cond dash (dash_opening bytes) (cond slash (slash_opening bytes) (cond line (line_opening (byte ∷ bytes)) Statement)))) ≡ Undecided → CanSettle fresh (byte ∷ bytes)
settles_by fresh byte bytes true hash dash slash line is_dash is_slash is_fresh is = absurd (cc)
settles_by fresh byte bytes false true dash slash line is_dash is_slash is_fresh is = absurd (cc)
settles_by fresh byte bytes false false true slash line is_dash is_slash is_fresh is = dash_settles fresh byte bytes (grind (arith, nat_tests)) is
settles_by fresh byte bytes false false false true line is_dash is_slash is_fresh is = slash_settles fresh byte bytes (grind (arith, nat_tests)) is
settles_by fresh byte bytes false false false false true is_dash is_slash is_fresh is = line_settles fresh (byte ∷ bytes) is_fresh is
settles_by fresh byte bytes false false false false false is_dash is_slash is_fresh is = absurd (cc)

settles : (fresh : Bool) (bytes : List ℕ) → opening fresh bytes ≡ Undecided → CanSettle fresh bytes
settles fresh [] is = absurd (cc)
settles fresh (byte ∷ bytes) is = settles_by fresh byte bytes (is_white byte) (byte == 35) (byte == 45) (byte == 47) fresh refl refl refl is

-- with some bytes, what more bytes decide is passed over, and no statement comes next
pub undecided_settles : (u : UnreadText) → opening u.fresh u.rest ≡ Undecided → (more : List ℕ) × (next_size (next (with_more more u)) ≡ None)
unfolding CanSettle
undecided_settles u is = let s = settles u.fresh u.rest is in (s.0, s.1.none u.ending u.offset)
