-- The grammar of quoted names: what comes first, what lengthens them, and how they are read.
use Rattle.std.proofs.Common.{◌≡◌, ℕ, ◌⊎◌, inl, inr, true, [], ◌∷◌, subst, arith}
use Rattle.grammar.specs.Language.{Begins, Fixed, Many}
use Rattle.grammar.proofs.Empty.{no_empty_fixed, no_empty_one, no_empty_then, begins_fixed, begins_then, begins_optional}
use Rattle.grammar.proofs.Leaves.{fixed_apart, one_apart}
use Rattle.grammar.proofs.Repeats.{apart_many, begins_many}
use Rattle.grammar.proofs.Rows.{Apart}
use Rattle.grammar.proofs.Sets.{Starts, Lengthens, apart_by, apart_free, starts_fixed, starts_one, starts_then, starts_many, starts_optional, starts_wider, lengthens_wider, lengthens_fixed, lengthens_one, lengthens_then, lengthens_before, lengthens_many, lengthens_optional}
use Rattle.statement_forms.specs.Insert.{is_inside, OpenedName, NamePart, QuotedName, NextName}
use Rattle.statement_reading.specs.Parts.{Names, FourthKey, ThirdKey, LaterKeys, NextKeys, KeyNames}

abbrev IsInside : ℕ → Type 0
IsInside c = is_inside c ≡ true

no_quote : (c : ℕ) → IsInside c → c ≡ 96 → ⊥
no_quote c inside quote = let wrong : IsInside 96 = subst IsInside quote inside in cc

pub apart_close : Apart OpenedName (Fixed (96 ∷ []))
unfolding OpenedName
apart_close = apart_by _ _ IsInside _
    (lengthens_before _ _ _ (fixed_apart _ _) (lengthens_fixed _ _) (starts_many _ _ (no_empty_one is_inside) (starts_one is_inside)) (lengthens_many _ _ (one_apart is_inside _) (no_empty_one is_inside) (starts_one is_inside) (lengthens_one is_inside _)))
    (starts_fixed 96 []) no_quote

pub no_empty_part : ¬ NamePart []
unfolding NamePart OpenedName
no_empty_part = no_empty_then _ _ (no_empty_then _ _ (no_empty_fixed 96 []))

starts_part : Starts NamePart (λ c. c ≡ 96)
unfolding NamePart OpenedName
starts_part = starts_then _ _ _ (no_empty_then _ _ (no_empty_fixed 96 [])) (starts_then _ _ _ (no_empty_fixed 96 []) (starts_fixed 96 []))

lengthens_part : (P : ℕ → Type 0) → Lengthens NamePart P
unfolding NamePart
lengthens_part P = lengthens_then _ _ P apart_close (no_empty_fixed 96 []) (lengthens_fixed _ P)

pub apart_part : Apart NamePart (Many NamePart)
apart_part = apart_many NamePart (apart_free _ _ (lengthens_part _)) no_empty_part

begins_part : Begins NamePart []
unfolding NamePart OpenedName
begins_part = begins_then _ _ (begins_then _ _ (begins_fixed _) (begins_many _)) (begins_fixed _)

pub no_empty_name : ¬ QuotedName []
unfolding QuotedName
no_empty_name = no_empty_then _ _ no_empty_part

pub begins_name : Begins QuotedName []
unfolding QuotedName
begins_name = begins_then _ _ begins_part (begins_many _)

-- Only a backquote lengthens a name.
pub lengthens_name : Lengthens QuotedName (λ c. c ≡ 96)
unfolding QuotedName
lengthens_name = lengthens_before _ _ _ apart_part (lengthens_part _) (starts_many _ _ no_empty_part starts_part) (lengthens_many _ _ apart_part no_empty_part starts_part (lengthens_part _))

-- lists of names

pub no_empty_next_name : ¬ NextName []
unfolding NextName
no_empty_next_name = no_empty_then _ _ (no_empty_fixed 44 [])

starts_next_name : Starts NextName (λ c. c ≡ 44)
unfolding NextName
starts_next_name = starts_then _ _ _ (no_empty_fixed 44 []) (starts_fixed 44 [])

lengthens_next_name : Lengthens NextName (λ c. c ≡ 96)
unfolding NextName
lengthens_next_name = lengthens_then _ _ _ (fixed_apart _ _) no_empty_name lengthens_name

not_comma : (c : ℕ) → c ≡ 96 → c ≡ 44 → ⊥
not_comma c quote comma = omega arith

pub apart_next_name : Apart NextName (Many NextName)
apart_next_name = apart_many NextName (apart_by _ _ _ _ lengthens_next_name starts_next_name not_comma) no_empty_next_name

pub apart_first_name : Apart QuotedName (Many NextName)
apart_first_name = apart_by _ _ _ _ lengthens_name (starts_many _ _ no_empty_next_name starts_next_name) not_comma

pub begins_names : Begins Names []
unfolding Names
begins_names = begins_then _ _ begins_name (begins_many _)

pub no_empty_names : ¬ Names []
unfolding Names
no_empty_names = no_empty_then _ _ no_empty_name

-- Only a backquote or a comma lengthens a list of names.
pub lengthens_names : Lengthens Names (λ c. (c ≡ 96) ⊎ (c ≡ 44))
unfolding Names
lengthens_names = lengthens_before _ _ _ apart_first_name (lengthens_wider _ _ _ (λ c quote. inl quote) lengthens_name)
    (starts_many _ _ no_empty_next_name (starts_wider _ _ _ (λ c comma. inr comma) starts_next_name))
    (lengthens_many _ _ apart_next_name no_empty_next_name (starts_wider _ _ _ (λ c comma. inr comma) starts_next_name) (lengthens_wider _ _ _ (λ c quote. inl quote) lengthens_next_name))

-- keys of two to four columns

abbrev InNames : ℕ → Type 0
InNames c = (c ≡ 96) ⊎ (c ≡ 44)

starts_next : Starts NextName InNames
starts_next = starts_wider _ _ _ (λ c comma. inr comma) starts_next_name

lengthens_next : Lengthens NextName InNames
lengthens_next = lengthens_wider _ _ _ (λ c quote. inl quote) lengthens_next_name

begins_next_name : Begins NextName []
unfolding NextName
begins_next_name = begins_then _ _ (begins_fixed _) begins_name

starts_fourth : Starts FourthKey (λ c. c ≡ 44)
unfolding FourthKey
starts_fourth = starts_optional _ _ starts_next_name

lengthens_fourth : Lengthens FourthKey InNames
unfolding FourthKey
lengthens_fourth = lengthens_optional _ _ lengthens_next starts_next

pub begins_fourth : Begins FourthKey []
unfolding FourthKey
begins_fourth = begins_optional _

pub apart_fourth : Apart NextName FourthKey
apart_fourth = apart_by _ _ _ _ lengthens_next_name starts_fourth not_comma

starts_third : Starts ThirdKey (λ c. c ≡ 44)
unfolding ThirdKey
starts_third = starts_then _ _ _ no_empty_next_name starts_next_name

lengthens_third : Lengthens ThirdKey InNames
unfolding ThirdKey
lengthens_third = lengthens_before _ _ _ apart_fourth lengthens_next (starts_wider _ _ _ (λ c comma. inr comma) starts_fourth) lengthens_fourth

starts_later : Starts LaterKeys (λ c. c ≡ 44)
unfolding LaterKeys
starts_later = starts_optional _ _ starts_third

lengthens_later : Lengthens LaterKeys InNames
unfolding LaterKeys
lengthens_later = lengthens_optional _ _ lengthens_third (starts_wider _ _ _ (λ c comma. inr comma) starts_third)

pub begins_later : Begins LaterKeys []
unfolding LaterKeys
begins_later = begins_optional _

pub apart_later : Apart NextName LaterKeys
apart_later = apart_by _ _ _ _ lengthens_next_name starts_later not_comma

starts_keys_next : Starts NextKeys (λ c. c ≡ 44)
unfolding NextKeys
starts_keys_next = starts_then _ _ _ no_empty_next_name starts_next_name

lengthens_keys_next : Lengthens NextKeys InNames
unfolding NextKeys
lengthens_keys_next = lengthens_before _ _ _ apart_later lengthens_next (starts_wider _ _ _ (λ c comma. inr comma) starts_later) lengthens_later

pub begins_keys_next : Begins NextKeys []
unfolding NextKeys
begins_keys_next = begins_then _ _ begins_next_name begins_later

pub apart_keys_next : Apart QuotedName NextKeys
apart_keys_next = apart_by _ _ _ _ lengthens_name starts_keys_next not_comma

pub begins_keys : Begins KeyNames []
unfolding KeyNames
begins_keys = begins_then _ _ begins_name begins_keys_next

-- Only a backquote or a comma lengthens the names of a key.
pub lengthens_keys : Lengthens KeyNames (λ c. (c ≡ 96) ⊎ (c ≡ 44))
unfolding KeyNames
lengthens_keys = lengthens_before _ _ _ apart_keys_next (lengthens_wider _ _ _ (λ c quote. inl quote) lengthens_name) (starts_wider _ _ _ (λ c comma. inr comma) starts_keys_next) lengthens_keys_next
