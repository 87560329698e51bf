-- A replay is a fold over the ops of the journal.
use Rattle.std.proofs.Common.{◌≡◌, ℕ, zero, suc, List, [], ◌∷◌, ◌++◌, length, take, Some, refl, ◌∙◌, ap, arith}
use Rattle.std.specs.List.{fold, slice_get, cons_option}
use Rattle.lfm_model.specs.declared.journals.What.{What}
use Rattle.lfm_model.specs.declared.journals.What.TheVariants.{Took, Did}
use Rattle.lfm_model.specs.declared.journals.Entry.{Entry}
use Rattle.lfm_model.specs.Journals.{after_what, after_all, reply_of, replies_of}
use Rattle.lfm_model.specs.JournalLaws.{op_of, ops}

module _ {O A : Type 0} (after : O → A → O) where
  folded_step : (o : O) (w : What A) (rest : List A) → fold after (after_what after o w) rest ≡ fold after o (cons_option (op_of w) rest)
  folded_step o (Took how) rest = refl
  folded_step o (Did op) rest = refl

  pub folded : (o : O) (es : List (Entry A)) → after_all after o es ≡ fold after o (ops es)
  folded o [] = refl
  folded o (e ∷ es) = folded (after_what after o e.what) es ∙ folded_step o e.what (ops es)

module _ {O A R : Type 0} (after : O → A → O) (reply : O → A → R) where
  counted_step : (o : O) (w : What A) (rs : List R) (rest : List A) → length rs ≡ length rest → length (reply_of after reply o w ++ rs) ≡ length (cons_option (op_of w) rest)
  counted_step o (Took how) rs rest h = h
  counted_step o (Did op) rs rest h = omega arith

  pub replies_counted : (o : O) (es : List (Entry A)) → length (replies_of after reply o es) ≡ length (ops es)
  replies_counted o [] = refl
  replies_counted o (e ∷ es) = counted_step o e.what (replies_of after reply (after_what after o e.what) es) (ops es) (replies_counted (after_what after o e.what) es)

  -- each of the replies to these ops, starting with the object o, is that of the object before the op
  abbrev Replied : O → List R → List A → Type 0
  Replied o rs made = (i : ℕ) (op : A) → slice_get made i ≡ Some op → slice_get rs i ≡ Some (reply (fold after o (take i made)) op)

  replied_step : (o : O) (w : What A) (rs : List R) (rest : List A) → Replied (after_what after o w) rs rest → Replied o (reply_of after reply o w ++ rs) (cons_option (op_of w) rest)
  replied_step o (Took how) rs rest h i op e = h i op e
  replied_step o (Did first) rs rest h zero op e = let is : first ≡ op = cc in ap (λ a. Some (reply o a)) is
  replied_step o (Did first) rs rest h (suc i) op e = h i op e

  pub replied : (o : O) (es : List (Entry A)) → Replied o (replies_of after reply o es) (ops es)
  replied o [] i op is = absurd cc
  replied o (e ∷ es) i op is = replied_step o e.what (replies_of after reply (after_what after o e.what) es) (ops es) (replied (after_what after o e.what) es) i op is
