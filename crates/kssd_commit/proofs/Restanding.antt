-- A device stands after an end.
use Rattle.std.proofs.Common.{◌≡◌, ◌≢◌, ◌∙◌, ℕ, ◌/◌, ◌≤◌, Bool, true, false, cond, List, [], ◌∷◌, ◌++◌, length, Option, Some, None, unwrap_or, refl, sym, ap, subst, arith}
use Rattle.std.specs.List.{list_all}
use Rattle.std.proofs.lemmas.Bool.{and_parts, and_from}
use Rattle.std.proofs.lemmas.List.{length-set}
use Rattle.kv_nand.specs.Flash.{Flash, Image, IsSound}
use Rattle.kv_nand.specs.Working.{Works}
use Rattle.kssd_layout.specs.Numbers.{first_value_block_in}
use Rattle.kssd_entry.specs.declared.entry.Entry.{Entry}
use Rattle.kssd_entry.specs.Spelling.{key_of}
use Rattle.kssd_model.specs.Rising.{find_entry}
use Rattle.kssd_image.specs.Stages.{shown_in}
use Rattle.kssd_image.specs.Whole.{has_its_value, pages_named, IsWhole}
use Rattle.kssd_frames.specs.Logging.{shown_after, IsRoomAfter}
use Rattle.kssd_frames.proofs.ShownLaws.{shown_in_rises}
use Rattle.kssd_values.specs.declared.filling.Filling.{Filling}
use Rattle.kssd_values.specs.declared.mark.Mark.{Mark}
use Rattle.kssd_values.specs.declared.mark.Mark.TheVariants as marks
use Rattle.kssd_values.specs.declared.values.Values.{Values}
use Rattle.kssd_values.specs.Marks.{is_live}
use Rattle.kssd_values.specs.Places.{IsValueBlock}
use Rattle.kssd_values.specs.Blocks.{device_of, mark_at, is_live_at, state_at, Free}
use Rattle.kssd_values.specs.Pages.{Fills}
use Rattle.kssd_values.specs.Changes.{SamePlaces}
use Rattle.kssd_values.proofs.Filled.{in_same}
use Rattle.kssd_index.specs.declared.index.Index.{Index}
use Rattle.kssd_index.specs.Standing.{IsIndex}
use Rattle.kssd_root.specs.Mapping.{SameValues, IsBeforeOrAfter}
use Rattle.kssd_tx.specs.Lists.{Transactions, changes_of, with_list}
use Rattle.kssd_machine.specs.Names.{times_pending, are_valued}
use Rattle.kssd_machine.specs.Sizes.{listed, replaced}
use Rattle.kssd_machine.specs.Marked.{is_pending, is_named, remarked, AreMarked, IsRemarked}
use Rattle.kssd_machine.proofs.Seeing.{found_passes, list_valued}
use Rattle.kssd_machine.proofs.Moving.{is_free}
use Rattle.kssd_machine.proofs.Tagging.{named_some, pending_closed, ends}
use Rattle.kssd_machine.proofs.Finishing.{all_valued}
use Rattle.kssd_machine.proofs.Sizing.{keys_after, pages_after}
use Rattle.kssd_machine.proofs.Transacting.{rising_closed}
use Rattle.kssd_machine.proofs.Valuing.{valued_closed}
use Rattle.kssd_machine.proofs.Remaining.{block_after_mark}
use Rattle.kssd_mounted.specs.declared.mounted.Mounted.{Mounted}
use Rattle.kssd_mounted.specs.Standing.{Stands}
use Rattle.kssd_mounted.proofs.Bearing.{collection_stays, bears_outside, live_before}
use Rattle.kssd_mounted.proofs.Changing.{named_region}
use Rattle.kssd_commit.specs.declared.judging.Judged.{Judged}
use Rattle.kssd_commit.specs.Judging.{IsJudged}
use Rattle.kssd_mounted.specs.Marking.{MayMark}
use Rattle.kssd_commit.proofs.Committed.{whole_then}

-- ---- pages of entries

-- entries that are replaced have their values
replaced_valued : (blocks : ℕ) (image : Image) (older entries : List Entry) → list_all (has_its_value blocks image) older ≡ true → list_all (has_its_value blocks image) (replaced older entries) ≡ true
replaced_valued blocks image older [] valued = refl
replaced_valued blocks image older (e ∷ es) valued = by (find_entry older (key_of e)) refl (replaced_valued blocks image older es valued)
  where
    by : (o : Option Entry) → find_entry older (key_of e) ≡ o → list_all (has_its_value blocks image) (replaced older es) ≡ true → list_all (has_its_value blocks image) (listed o ++ replaced older es) ≡ true
    by None is rest = rest
    by (Some x) is rest = and_from _ _ (found_passes (has_its_value blocks image) older (key_of e) x valued is) rest

-- a page that pending entries name isn't in a free block
live_since : (mark : Mark) (n : ℕ) → n ≡ cond (is_pending mark) 1 0 → 1 ≤ n → is_live mark ≡ true
live_since marks.Pending n is some = refl
live_since marks.Visible n is some = absurd (omega arith)
live_since marks.Dead n is some = absurd (omega arith)

pending_taken : (v : Values) (visible : List Entry) (lists : Transactions) (tx page : ℕ) → AreMarked v visible lists → is_named page (changes_of lists tx) ≡ true → state_at v (page / 32) ≢ Free
pending_taken v visible lists tx page marked named free =
    let some : 1 ≤ times_pending page lists = omega (arith, named_some page (changes_of lists tx) named, pending_closed page lists tx) in
    let live : is_live_at v page ≡ true = live_since (mark_at v page) (times_pending page lists) (marked.pending page) some in
    absurd (let e : false ≡ true = sym (v.sound.dead page (is_free v (page / 32) free)) ∙ live in cc)

-- a page that is live after an end was live before
still_live : (v w : Values) (visible : List Entry) (lists : Transactions) (tx : ℕ) (gone : List Entry) (page : ℕ) → AreMarked v visible lists → IsRemarked v gone (changes_of lists tx) marks.Visible w → is_live_at w page ≡ true → is_live_at v page ≡ true
still_live v w visible lists tx gone page marked remark live = by (is_named page (changes_of lists tx)) refl (sym (ap is_live (remark page)) ∙ live)
  where
    by : (b : Bool) → is_named page (changes_of lists tx) ≡ b → is_live (cond b marks.Visible (remarked gone marks.Dead (mark_at v) page)) ≡ true → is_live_at v page ≡ true
    by true named h = live_since (mark_at v page) (times_pending page lists) (marked.pending page) (let some : 1 ≤ times_pending page lists = omega (arith, named_some page (changes_of lists tx) named, pending_closed page lists tx) in some)
    by false none h = live_before (is_named page gone) (mark_at v page) h

-- ---- values of changes

lists_valued : (blocks : ℕ) (old new : Image) (lists : Transactions) → SameValues blocks old new → are_valued blocks old lists ≡ true → are_valued blocks new lists ≡ true
lists_valued blocks old new [] same valued = refl
lists_valued blocks old new (t ∷ ts) same valued =
    let both = and_parts (list_all (has_its_value blocks old) (unwrap_or t [])) (are_valued blocks old ts) valued in
    and_from _ _ (all_valued blocks old new (unwrap_or t []) same both.0) (lists_valued blocks old new ts same both.1)

-- blocks that are filled stand where the pages of values are the same
fills_still : (v : Values) (old new : Image) → SameValues (device_of v) old new → Fills v old → Fills v new
fills_still v old new same fills = record {
  opened = in_same v.opened old new fills.opened (λ f is q at. same q (low f q at (v.sound.opened_is f is).value));
  target = in_same v.target old new fills.target (λ f is q at. same q (low f q at (v.sound.target_is f is).value));
}
  where
    low : (f : Filling) (q : ℕ) → q / 32 ≡ f.block → IsValueBlock (device_of v) f.block → first_value_block_in (device_of v) ≤ q / 32
    low f q at value = subst (λ b. first_value_block_in (device_of v) ≤ b) (sym at) value.first

-- ---- after an end

module _ (m : Mounted) (old : Flash) (tx : ℕ) (judged : Judged) (stands : Stands m old) (is : IsJudged judged m tx old) (room : IsRoomAfter old.blocks old.image (changes_of m.changes tx)) where
  pub may_die : MayMark m.values judged.replaced marks.Dead
  may_die = record {
    region = λ page named.
        let named_ : is_named page (replaced (shown_in old.image) (changes_of m.changes tx)) ≡ true = sym (ap (is_named page) is.replaced_are) ∙ named in
        subst (λ n. IsValueBlock n (page / 32)) (sym stands.device) (named_region old.blocks old.image page (replaced (shown_in old.image) (changes_of m.changes tx)) (replaced_valued old.blocks old.image (shown_in old.image) (changes_of m.changes tx) stands.whole.values.pages) named_);
    taken = λ page named live. absurd cc;
  }

  pub may_show : (entries : List Entry) → entries ≡ changes_of m.changes tx → MayMark m.values entries marks.Visible
  may_show entries same = record {
    region = λ page named.
        let named_ : is_named page (changes_of m.changes tx) ≡ true = sym (ap (is_named page) same) ∙ named in
        subst (λ n. IsValueBlock n (page / 32)) (sym stands.device) (named_region old.blocks old.image page (changes_of m.changes tx) (list_valued old.blocks old.image m.changes tx stands.valued) named_);
    taken = λ page named live. pending_taken m.values (shown_in old.image) m.changes tx page stands.marked (sym (ap (is_named page) same) ∙ named);
  }

  pub stands_then : (new : Flash) (entries : List Entry) (index : Index) (values : Values) (ops reads : ℕ) → IsSound old → entries ≡ changes_of m.changes tx → Works old new ops reads → IsIndex index new.blocks new.image
      → IsBeforeOrAfter old.blocks old.image entries new.image → shown_in new.image ≡ shown_after old.image entries → IsRemarked m.values judged.replaced entries marks.Visible values → SamePlaces m.values values
      → Stands (record { index = index; values = values; changes = with_list m.changes tx None; collection = m.collection; keys = judged.keys; pages = judged.pages }) new
  stands_then new entries index values ops reads sound same works index_is either shown marked places =
      let blocks : new.blocks ≡ old.blocks = ap (λ (f : Flash). f.blocks) works.after in
      let shown_ : shown_in new.image ≡ shown_after old.image (changes_of m.changes tx) = shown ∙ ap (shown_after old.image) same in
      let remarked_ : IsRemarked m.values (replaced (shown_in old.image) (changes_of m.changes tx)) (changes_of m.changes tx) marks.Visible values =
      subst (λ (es : List Entry). IsRemarked m.values es (changes_of m.changes tx) marks.Visible values) is.replaced_are (subst (λ (es : List Entry). IsRemarked m.values judged.replaced es marks.Visible values) same marked) in
      record {
        powered = ap (λ (f : Flash). f.powered) works.after ∙ stands.powered;
        least = subst (λ n. 256 ≤ n) (sym blocks) stands.least;
        most = subst (λ n. n ≤ 2048) (sym blocks) stands.most;
        whole = subst (λ n. IsWhole n new.image) (sym blocks) (whole_then m old tx stands room new entries same either);
        index = index_is;
        device = places.device ∙ stands.device ∙ sym blocks;
        fills = places.fills new.image (fills_still m.values old.image new.image (subst (λ n. SameValues n old.image new.image) (sym stands.device) either.values) stands.fills);
        collecting = collection_stays m.collection m.values values old.image new.image stands.collecting
            (bears_outside m.values values old.image new.image places
            (λ page live. still_live m.values values (shown_in old.image) m.changes tx (replaced (shown_in old.image) (changes_of m.changes tx)) page stands.marked remarked_ live)
            (λ page value. either.values page (subst (λ n. first_value_block_in n ≤ page / 32) stands.device value)));
        four = length-set m.changes tx None ∙ stands.four;
        rising = rising_closed m.changes tx stands.rising;
        valued = subst (λ n. are_valued n new.image (with_list m.changes tx None) ≡ true) (sym blocks) (lists_valued old.blocks old.image new.image (with_list m.changes tx None) either.values (valued_closed old.blocks old.image m.changes tx stands.valued));
        marked = subst (λ (es : List Entry). AreMarked values es (with_list m.changes tx None)) (sym shown_) (ends m.values values (shown_in old.image) m.changes tx (shown_in_rises old.image) stands.rising stands.marked remarked_);
        block = block_after_mark m.values values places stands.block;
        keys = is.keys ∙ keys_after old m.changes tx ∙ sym (ap (λ (es : List Entry). length es) shown_);
        pages = is.pages ∙ pages_after old m.changes tx sound stands.whole stands.valued is.fits ∙ sym (ap (λ (es : List Entry). length (pages_named es)) shown_);
      }
