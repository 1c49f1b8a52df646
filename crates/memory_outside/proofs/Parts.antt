-- Files that stand in parts.
use Rattle.std.proofs.Common.{◌≡◌, ℕ, zero, suc, ◌+◌, ◌<◌, Bool, true, false, ◌||◌, cond, List, [], ◌∷◌, ◌++◌, length, get_or, set, remove, Some, None, is_some, refl, sym, ap, ◌∙◌, subst, arith, append_assoc, append-nil, take, drop}
use Rattle.std.specs.List.{list_any, position, position_from, flat_map}
use Rattle.std.proofs.lemmas.Bool.{false≢true, or_parts, cond-true, cond-false}
use Rattle.std.proofs.lemmas.Iterator.Adapters.{position_from-zero}
use Rattle.std.proofs.lemmas.List.Quantifiers.{position-Some}
use Rattle.std.proofs.lemmas.Grind.{common_steps}
use Rattle.std.proofs.lemmas.List.{map-append, take_more, at_drop_more}
use Rattle.std.proofs.lemmas.List.Concat.{flat_map-append}
use Rattle.std.proofs.lemmas.List.Folds.{list_any-append}
use Rattle.link_traits.specs.Contents.{File, file_names, is_named, has_name, contents_of}
use Rattle.link_traits.specs.Folder.{without, with_name}
use Rattle.memory_outside.specs.Memory.{with_file}

-- there is a place where the test passes exactly where it passes at all
is_some-position_from : {X : Type 0} (p : X → Bool) (i : ℕ) (xs : List X) → is_some (position_from p i xs) ≡ list_any p xs
is_some-position_from p i [] = refl
is_some-position_from p i (x ∷ xs) =
    elim (p x) as (λ b. is_some (cond b (Some i) (position_from p (i + 1) xs)) ≡ (b || list_any p xs)) [
      | true ↦ refl
      | false ↦ is_some-position_from p (i + 1) xs
    ]

pub is_some-position : {X : Type 0} (p : X → Bool) (xs : List X) → is_some (position p xs) ≡ list_any p xs
is_some-position p xs = ap is_some (position_from-zero p xs) ∙ is_some-position_from p 0 xs

-- a test that passes at no place passes nowhere
pub position-None : {X : Type 0} (p : X → Bool) (xs : List X) → position p xs ≡ None → list_any p xs ≡ false
position-None p xs h = sym (is_some-position p xs) ∙ ap is_some h

-- a write at the first file of the name puts the file there
pub set-with_file : (xs : List File) (file : File) (i : ℕ) (d : File) → i < length xs → is_named file.name (get_or xs i d) ≡ true → ((k : ℕ) → k < i → is_named file.name (get_or xs k d) ≡ false) → set xs i file ≡ with_file xs file
set-with_file [] file i d h here before = absurd (omega arith)
set-with_file (x ∷ xs) file zero d h here before = rw here refl
set-with_file (x ∷ xs) file (suc i) d h here before =
    let first : is_named file.name x ≡ false = before 0 (omega arith) in
    rw first (ap (λ (l : List File). x ∷ l) (set-with_file xs file i d (omega arith) here (λ k l. before (suc k) (omega arith))))

pub position-with_file : (xs : List File) (file : File) (i : ℕ) → position (is_named file.name) xs ≡ Some i → set xs i file ≡ with_file xs file
position-with_file xs file i h =
    let at = position-Some (is_named file.name) xs i file h in set-with_file xs file i file at.0 at.1 at.2

-- a file whose name stands in the front is put there
pub with_file-front : (xs ys : List File) (file : File) → has_name file.name xs ≡ true → with_file (xs ++ ys) file ≡ with_file xs file ++ ys
with_file-front [] ys file h = absurd (false≢true h)
with_file-front (x ∷ xs) ys file h =
    elim (is_named file.name x) as (λ b. (b || has_name file.name xs) ≡ true → cond b (file ∷ (xs ++ ys)) (x ∷ with_file (xs ++ ys) file) ≡ cond b (file ∷ xs) (x ∷ with_file xs file) ++ ys) [
      | true ↦ λ _. refl
      | false ↦ λ e. ap (λ (l : List File). x ∷ l) (with_file-front xs ys file e)
    ] h

-- a file whose name doesn't stand in the front is put after it
pub with_file-back : (xs ys : List File) (file : File) → has_name file.name xs ≡ false → with_file (xs ++ ys) file ≡ xs ++ with_file ys file
with_file-back [] ys file h = refl
with_file-back (x ∷ xs) ys file h =
    elim (is_named file.name x) as (λ b. (b || has_name file.name xs) ≡ false → cond b (file ∷ (xs ++ ys)) (x ∷ with_file (xs ++ ys) file) ≡ x ∷ (xs ++ with_file ys file)) [
      | true ↦ λ e. absurd (false≢true (sym e))
      | false ↦ λ e. ap (λ (l : List File). x ∷ l) (with_file-back xs ys file e)
    ] h

-- a file is put among all where it is put into the first part that has its name
pub with_file-part : {X : Type 0} (f : X → List File) (parts : List X) (file : File) (i : ℕ) (d new : X) → i < length parts → f new ≡ with_file (f (get_or parts i d)) file → has_name file.name (f (get_or parts i d)) ≡ true → ((k : ℕ) → k < i → has_name file.name (f (get_or parts k d)) ≡ false) → flat_map f (set parts i new) ≡ with_file (flat_map f parts) file
with_file-part f [] file i d new h put here before = absurd (omega arith)
with_file-part f (part ∷ parts) file zero d new h put here before =
    ap (λ (l : List File). l ++ flat_map f parts) put ∙ sym (with_file-front (f part) (flat_map f parts) file here)
with_file-part f (part ∷ parts) file (suc i) d new h put here before =
    let first : has_name file.name (f part) ≡ false = before 0 (omega arith) in
    ap (λ (l : List File). f part ++ l) (with_file-part f parts file i d new (omega arith) put here (λ k l. before (suc k) (omega arith))) ∙ sym (with_file-back (f part) (flat_map f parts) file first)

-- a file whose name stands in no part is put after all
pub with_file-new : {X : Type 0} (f : X → List File) (parts : List X) (file : File) → list_any (λ part. has_name file.name (f part)) parts ≡ false → with_file (flat_map f parts) file ≡ flat_map f parts ++ file ∷ []
with_file-new f [] file h = refl
with_file-new f (part ∷ parts) file h =
    elim (has_name file.name (f part)) as (λ b. has_name file.name (f part) ≡ b → (b || list_any (λ p. has_name file.name (f p)) parts) ≡ false → with_file (f part ++ flat_map f parts) file ≡ (f part ++ flat_map f parts) ++ file ∷ []) [
      | true ↦ λ _ e. absurd (false≢true (sym e))
      | false ↦ λ first e. with_file-back (f part) (flat_map f parts) file first ∙ (ap (λ (l : List File). f part ++ l) (with_file-new f parts file e) ∙ sym (append_assoc (f part) (flat_map f parts) (file ∷ [])))
    ] refl h

-- the bytes of a name that stands in the front
pub bytes_of-front : (xs ys : List File) (name bytes : List ℕ) → contents_of xs name ≡ Some bytes → contents_of (xs ++ ys) name ≡ Some bytes
bytes_of-front [] ys name bytes h = cc
bytes_of-front (x ∷ xs) ys name bytes h =
    elim (is_named name x) as (λ b. cond b (Some x.bytes) (contents_of xs name) ≡ Some bytes → cond b (Some x.bytes) (contents_of (xs ++ ys) name) ≡ Some bytes) [
      | true ↦ λ e. e
      | false ↦ λ e. bytes_of-front xs ys name bytes e
    ] h

-- the bytes of a name that doesn't stand in the front
pub bytes_of-back : (xs ys : List File) (name : List ℕ) → contents_of xs name ≡ None → contents_of (xs ++ ys) name ≡ contents_of ys name
bytes_of-back [] ys name h = refl
bytes_of-back (x ∷ xs) ys name h =
    elim (is_named name x) as (λ b. cond b (Some x.bytes) (contents_of xs name) ≡ None → cond b (Some x.bytes) (contents_of (xs ++ ys) name) ≡ contents_of ys name) [
      | true ↦ λ e. (cc)
      | false ↦ λ e. bytes_of-back xs ys name e
    ] h

-- the first part that has a name has it
pub position-has_name : {X : Type 0} (f : X → List File) (parts : List X) (name : List ℕ) (i : ℕ) (part : X) → position (λ p. has_name name (f p)) parts ≡ Some i → part ≡ get_or parts i part → has_name name (f part) ≡ true
position-has_name {X} f parts name i part h here =
    let HasName : X → Type 0 = λ p. has_name name (f p) ≡ true in
    let at = position-Some (λ p. has_name name (f p)) parts i part h in subst HasName (sym here) at.1

-- a file is put among all where it is put into the first part that has its name
pub position-with_file-part : {X : Type 0} (f : X → List File) (parts : List X) (file : File) (i : ℕ) (old new : X) → position (λ p. has_name file.name (f p)) parts ≡ Some i → old ≡ get_or parts i old → f new ≡ with_file (f old) file → flat_map f (set parts i new) ≡ with_file (flat_map f parts) file
position-with_file-part {X} f parts file i old new h here put =
    let Put : X → Type 0 = λ p. f new ≡ with_file (f p) file in
    let at = position-Some (λ p. has_name file.name (f p)) parts i old h in with_file-part f parts file i old new at.0 (subst Put here put) at.1 at.2

-- a file whose name stands in no part is put after all
pub position-with_file-new : {X : Type 0} (f : X → List File) (parts : List X) (file : File) (last : X) → position (λ p. has_name file.name (f p)) parts ≡ None → f last ≡ file ∷ [] → flat_map f (parts ++ last ∷ []) ≡ with_file (flat_map f parts) file
position-with_file-new f parts file last h one =
    let none = position-None (λ p. has_name file.name (f p)) parts h in
    flat_map-append f parts (last ∷ []) ∙ (ap (λ (l : List File). flat_map f parts ++ (l ++ [])) one ∙ sym (with_file-new f parts file none))

-- the bytes of a name that stands in the next part
pub bytes_of-found : {X : Type 0} (f : X → List File) (parts : List X) (i : ℕ) (part : X) (name bytes : List ℕ) → i < length parts → part ≡ get_or parts i part → contents_of (f part) name ≡ Some bytes → contents_of (flat_map f (drop i parts)) name ≡ Some bytes
bytes_of-found {X} f parts i part name bytes h here found =
    let Found : X → Type 0 = λ p. contents_of (f p ++ flat_map f (drop (i + 1) parts)) name ≡ Some bytes in
    at_drop_more (λ (ps : List X). contents_of (flat_map f ps) name) parts i part h ∙ subst Found here (bytes_of-front (f part) (flat_map f (drop (i + 1) parts)) name bytes found)

-- the bytes of a name that doesn't stand in the next part
pub bytes_of-passed : {X : Type 0} (f : X → List File) (parts : List X) (i : ℕ) (part : X) (name : List ℕ) → i < length parts → part ≡ get_or parts i part → contents_of (f part) name ≡ None → contents_of (flat_map f (drop i parts)) name ≡ contents_of (flat_map f (drop (i + 1) parts)) name
bytes_of-passed {X} f parts i part name h here none =
    let Passed : X → Type 0 = λ p. contents_of (f p ++ flat_map f (drop (i + 1) parts)) name ≡ contents_of (flat_map f (drop (i + 1) parts)) name in
    at_drop_more (λ (ps : List X). contents_of (flat_map f ps) name) parts i part h ∙ subst Passed here (bytes_of-back (f part) (flat_map f (drop (i + 1) parts)) name none)

-- the names of the next part, after those of the parts before it
pub names-more : {X : Type 0} (f : X → List File) (parts : List X) (i : ℕ) (part : X) → i < length parts → part ≡ get_or parts i part → file_names (flat_map f (take i parts)) ++ file_names (f part) ≡ file_names (flat_map f (take (i + 1) parts))
names-more {X} f parts i part h here =
    let More : X → Type 0 = λ p. file_names (flat_map f (take i parts)) ++ file_names (f p) ≡ file_names (flat_map f (take (i + 1) parts)) in
    let name : File → List ℕ = λ file. file.name in
    subst More (sym here) (sym (ap (λ (l : List X). file_names (flat_map f l)) (take_more parts i part h) ∙ (ap file_names (flat_map-append f (take i parts) (get_or parts i part ∷ [])) ∙ (map-append name (flat_map f (take i parts)) (f (get_or parts i part) ++ []) ∙ ap (λ (l : List File). file_names (flat_map f (take i parts)) ++ file_names l) (append-nil (f (get_or parts i part)))))))

-- a test passes in the parts put together where it does in one of them
pub list_any-parts : {X Y : Type 0} (p : X → Bool) (f : Y → List X) (parts : List Y) → list_any p (flat_map f parts) ≡ list_any (λ y. list_any p (f y)) parts
list_any-parts p f [] = refl
list_any-parts p f (part ∷ parts) = list_any-append p (f part) (flat_map f parts) ∙ ap (λ b. list_any p (f part) || b) (list_any-parts p f parts)

-- the list, of which the first element that passes the test is replaced by these
abbrev pub edited : {X : Type 0} → (X → Bool) → (X → List X) → List X → List X
edited p g [] = []
edited p g (x ∷ xs) = cond (p x) (g x ++ xs) (x ∷ edited p g xs)

module _ {X : Type 0} (p : X → Bool) (g : X → List X) where
  -- nothing passes, and nothing is replaced
  pub edited-none : (xs : List X) → list_any p xs ≡ false → edited p g xs ≡ xs
  edited-none [] h = refl
  edited-none (x ∷ xs) h =
      let apart = or_parts (p x) (list_any p xs) h in
      cond-false (p x) (g x ++ xs) (x ∷ edited p g xs) apart.0 ∙ ap (λ (l : List X). x ∷ l) (edited-none xs apart.1)

  pub edited-front : (xs ys : List X) → list_any p xs ≡ true → edited p g (xs ++ ys) ≡ edited p g xs ++ ys
  edited-front [] ys h = absurd (false≢true h)
  edited-front (x ∷ xs) ys h =
      elim (p x) as (λ b. (b || list_any p xs) ≡ true → cond b (g x ++ (xs ++ ys)) (x ∷ edited p g (xs ++ ys)) ≡ cond b (g x ++ xs) (x ∷ edited p g xs) ++ ys) [
        | true ↦ λ _. sym (append_assoc (g x) xs ys)
        | false ↦ λ e. ap (λ (l : List X). x ∷ l) (edited-front xs ys e)
      ] h

  pub edited-back : (xs ys : List X) → list_any p xs ≡ false → edited p g (xs ++ ys) ≡ xs ++ edited p g ys
  edited-back [] ys h = refl
  edited-back (x ∷ xs) ys h =
      let apart = or_parts (p x) (list_any p xs) h in
      cond-false (p x) (g x ++ (xs ++ ys)) (x ∷ edited p g (xs ++ ys)) apart.0 ∙ ap (λ (l : List X). x ∷ l) (edited-back xs ys apart.1)

  -- the first that passes, at its place
  pub edited-at : (xs : List X) (i : ℕ) (d : X) → i < length xs → p (get_or xs i d) ≡ true → ((k : ℕ) → k < i → p (get_or xs k d) ≡ false) → edited p g xs ≡ take i xs ++ (g (get_or xs i d) ++ drop (suc i) xs)
  edited-at [] i d h here before = absurd (omega arith)
  edited-at (x ∷ xs) zero d h here before = cond-true (p x) (g x ++ xs) (x ∷ edited p g xs) here
  edited-at (x ∷ xs) (suc i) d h here before =
      cond-false (p x) (g x ++ xs) (x ∷ edited p g xs) (before 0 (omega arith)) ∙ ap (λ (l : List X). x ∷ l) (edited-at xs i d (omega arith) here (λ k l. before (suc k) (omega arith)))

  -- a list of parts: the first part that has such an element is edited
  pub edited-part : {Y : Type 0} (f : Y → List X) (parts : List Y) (i : ℕ) (d new : Y) → i < length parts → f new ≡ edited p g (f (get_or parts i d)) → list_any p (f (get_or parts i d)) ≡ true → ((k : ℕ) → k < i → list_any p (f (get_or parts k d)) ≡ false) → flat_map f (set parts i new) ≡ edited p g (flat_map f parts)
  edited-part f [] i d new h put here before = absurd (omega arith)
  edited-part f (part ∷ parts) zero d new h put here before =
      ap (λ (l : List X). l ++ flat_map f parts) put ∙ sym (edited-front (f part) (flat_map f parts) here)
  edited-part f (part ∷ parts) (suc i) d new h put here before =
      ap (λ (l : List X). f part ++ l) (edited-part f parts i d new (omega arith) put here (λ k l. before (suc k) (omega arith))) ∙ sym (edited-back (f part) (flat_map f parts) (before 0 (omega arith)))

  pub position-edited-part : {Y : Type 0} (f : Y → List X) (parts : List Y) (i : ℕ) (old new : Y) → position (λ y. list_any p (f y)) parts ≡ Some i → old ≡ get_or parts i old → f new ≡ edited p g (f old) → flat_map f (set parts i new) ≡ edited p g (flat_map f parts)
  position-edited-part {Y} f parts i old new h here put =
      let Put : Y → Type 0 = λ y. f new ≡ edited p g (f y) in
      let at = position-Some (λ y. list_any p (f y)) parts i old h in edited-part f parts i old new at.0 (subst Put here put) at.1 at.2

  pub position-edited-none : {Y : Type 0} (f : Y → List X) (parts : List Y) → position (λ y. list_any p (f y)) parts ≡ None → flat_map f parts ≡ edited p g (flat_map f parts)
  position-edited-none f parts h = sym (edited-none (flat_map f parts) (list_any-parts p f parts ∙ position-None (λ y. list_any p (f y)) parts h))

-- the files without the first of this name
abbrev pub taken_out : File → List File
taken_out file = []

pub without-edited : (name : List ℕ) (files : List File) → edited (is_named name) taken_out files ≡ without name files
without-edited name [] = refl
without-edited name (file ∷ files) = ap (λ (l : List File). cond (is_named name file) files (file ∷ l)) (without-edited name files)

-- the file under another name
abbrev pub renamed : List ℕ → File → List File
renamed to file = record file { name = to } ∷ []

pub with_name-edited : (from to : List ℕ) (files : List File) → edited (is_named from) (renamed to) files ≡ with_name from to files
with_name-edited from to [] = refl
with_name-edited from to (file ∷ files) = ap (λ (l : List File). cond (is_named from file) (record file { name = to } ∷ files) (file ∷ l)) (with_name-edited from to files)

-- a file that was removed at its place is taken out
pub position-without : (files : List File) (name : List ℕ) (i : ℕ) (d : File) → position (is_named name) files ≡ Some i → remove files i ≡ without name files
position-without files name i d h =
    let at = position-Some (is_named name) files i d h in sym (edited-at (is_named name) taken_out files i d at.0 at.1 at.2) ∙ without-edited name files

pub position-without-none : (files : List File) (name : List ℕ) → position (is_named name) files ≡ None → files ≡ without name files
position-without-none files name h = sym (edited-none (is_named name) taken_out files (position-None (is_named name) files h)) ∙ without-edited name files

-- a file that got another name at its place
pub position-with_name : (files : List File) (from to : List ℕ) (i : ℕ) (old : File) → position (is_named from) files ≡ Some i → old ≡ get_or files i old → set files i (record old { name = to }) ≡ with_name from to files
position-with_name files from to i old h here =
    let at = position-Some (is_named from) files i old h in
    let Is : File → Type 0 = λ file. set files i (record old { name = to }) ≡ take i files ++ (renamed to file ++ drop (suc i) files) in
    subst Is here (set-parts files i (record old { name = to }) at.0) ∙ sym (edited-at (is_named from) (renamed to) files i old at.0 at.1 at.2) ∙ with_name-edited from to files
  where
    set-parts : (xs : List File) (i : ℕ) (x : File) → i < length xs → set xs i x ≡ take i xs ++ (x ∷ drop (suc i) xs)
    set-parts [] i x h = absurd (omega arith)
    set-parts (y ∷ ys) zero x h = refl
    set-parts (y ∷ ys) (suc i) x h = ap (λ (l : List File). y ∷ l) (set-parts ys i x (omega arith))

pub position-with_name-none : (files : List File) (from to : List ℕ) → position (is_named from) files ≡ None → files ≡ with_name from to files
position-with_name-none files from to h = sym (edited-none (is_named from) (renamed to) files (position-None (is_named from) files h)) ∙ with_name-edited from to files

-- the file of a name is taken out of all where it is taken out of the first part that has it
module _ {X : Type 0} (f : X → List File) (parts : List X) (name : List ℕ) where
  pub position-without-part : (i : ℕ) (old new : X) → position (λ p. has_name name (f p)) parts ≡ Some i → old ≡ get_or parts i old → f new ≡ without name (f old) → flat_map f (set parts i new) ≡ without name (flat_map f parts)
  position-without-part i old new h here put =
      position-edited-part (is_named name) taken_out f parts i old new h here (put ∙ sym (without-edited name (f old))) ∙ without-edited name (flat_map f parts)

  pub position-without-nowhere : position (λ p. has_name name (f p)) parts ≡ None → flat_map f parts ≡ without name (flat_map f parts)
  position-without-nowhere h = position-edited-none (is_named name) taken_out f parts h ∙ without-edited name (flat_map f parts)

  -- and it gets another name among all where it does in that part
  pub position-with_name-part : (to : List ℕ) (i : ℕ) (old new : X) → position (λ p. has_name name (f p)) parts ≡ Some i → old ≡ get_or parts i old → f new ≡ with_name name to (f old) → flat_map f (set parts i new) ≡ with_name name to (flat_map f parts)
  position-with_name-part to i old new h here put =
      position-edited-part (is_named name) (renamed to) f parts i old new h here (put ∙ sym (with_name-edited name to (f old))) ∙ with_name-edited name to (flat_map f parts)

  pub position-with_name-nowhere : (to : List ℕ) → position (λ p. has_name name (f p)) parts ≡ None → flat_map f parts ≡ with_name name to (flat_map f parts)
  position-with_name-nowhere to h = position-edited-none (is_named name) (renamed to) f parts h ∙ with_name-edited name to (flat_map f parts)

-- a list that was written over from its front to its end is what was written
pub written_over-whole : {X : Type 0} (old new : List X) → length new ≡ length old → take (length old) (new ++ drop (length new) old) ≡ new
written_over-whole old new h = grind (arith, common_steps)
