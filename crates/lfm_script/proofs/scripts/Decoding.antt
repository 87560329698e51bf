-- A line or a first line of a script that is written is read back as itself, and has no line feed.
use Rattle.std.proofs.Common.{◌≡◌, ◌<◌, ◌^◌, ℕ, ◌∷◌, ◌++◌, Some, refl, codes, decimal}
use Rattle.lfm_text.specs.Text.{words_of}
use Rattle.lfm_text.proofs.Numbers.{every}
use Rattle.lfm_script.specs.declared.script.Command.{Command}
use Rattle.lfm_script.specs.declared.script.Command.TheVariants.{Add, Until, One, All}
use Rattle.lfm_script.specs.declared.script.ScriptLine.{ScriptLine}
use Rattle.lfm_script.specs.script.Grammar.{line_of, header_of}
use Rattle.lfm_script.specs.script.Spelling.{command_spelling, line_spelling, header_spelling, IsWritableCommand, IsWritable}
use Rattle.lfm_text.proofs.Separators.{Lacks, first_part, only_part, no_space, literal_lacks, no_feed, both_lack}

-- the spelling of a worker and a command is read as these
command_decodes : (w : ℕ) (m : Command) → w < 10 ^ 18 → IsWritableCommand m
    → line_of (words_of (decimal w ++ 32 ∷ command_spelling m)) ≡ Some (record { worker = w; command = m })
command_decodes w (Add k) small short =
    rw (first_part 32 (decimal w) (codes "add " ++ decimal k) (no_space w small), only_part 32 (decimal k) (no_space k short), every w small, every k short) refl
command_decodes w (Until c k) small short =
    rw (
      first_part 32 (decimal w) (codes "until " ++ (decimal c ++ 32 ∷ decimal k)) (no_space w small),
      first_part 32 (decimal c) (decimal k) (no_space c short.0),
      only_part 32 (decimal k) (no_space k short.1),
      every w small,
      every c short.0,
      every k short.1,
    ) refl
command_decodes w (One c) small short =
    rw (first_part 32 (decimal w) (codes "one " ++ decimal c) (no_space w small), only_part 32 (decimal c) (no_space c short), every w small, every c short) refl
command_decodes w (All c) small short =
    rw (first_part 32 (decimal w) (codes "all " ++ decimal c) (no_space w small), only_part 32 (decimal c) (no_space c short), every w small, every c short) refl

-- the spelling of a line is read as that line
pub line_decodes : (l : ScriptLine) → IsWritable l → line_of (words_of (line_spelling l)) ≡ Some l
line_decodes l writable = command_decodes l.worker l.command writable.worker writable.command

-- the spelling of a first line is read as that line
pub header_decodes : (n c : ℕ) → n < 10 ^ 18 → c < 10 ^ 18 → header_of (words_of (header_spelling n c)) ≡ Some (n, c)
header_decodes n c small short =
    rw (first_part 32 (decimal n) (decimal c) (no_space n small), only_part 32 (decimal c) (no_space c short), every n small, every c short) refl

-- ---- lines have no line feed

two_numbers_lack : (c k : ℕ) → c < 10 ^ 18 → k < 10 ^ 18 → Lacks 10 (decimal c ++ (codes " " ++ decimal k))
two_numbers_lack c k small short =
    both_lack (decimal c) (codes " " ++ decimal k) (no_feed c small) (both_lack (codes " ") (decimal k) (literal_lacks 10 (codes " ") refl) (no_feed k short))

no_feed_in_command : (m : Command) → IsWritableCommand m → Lacks 10 (command_spelling m)
no_feed_in_command (Add k) short = both_lack (codes "add ") (decimal k) (literal_lacks 10 (codes "add ") refl) (no_feed k short)
no_feed_in_command (Until c k) short = both_lack (codes "until ") (decimal c ++ (codes " " ++ decimal k)) (literal_lacks 10 (codes "until ") refl) (two_numbers_lack c k short.0 short.1)
no_feed_in_command (One c) short = both_lack (codes "one ") (decimal c) (literal_lacks 10 (codes "one ") refl) (no_feed c short)
no_feed_in_command (All c) short = both_lack (codes "all ") (decimal c) (literal_lacks 10 (codes "all ") refl) (no_feed c short)

pub no_feed_in_line : (l : ScriptLine) → IsWritable l → Lacks 10 (line_spelling l)
no_feed_in_line l writable =
    both_lack (decimal l.worker) (codes " " ++ command_spelling l.command) (no_feed l.worker writable.worker)
    (both_lack (codes " ") (command_spelling l.command) (literal_lacks 10 (codes " ") refl) (no_feed_in_command l.command writable.command))

pub no_feed_in_header : (n c : ℕ) → n < 10 ^ 18 → c < 10 ^ 18 → Lacks 10 (header_spelling n c)
no_feed_in_header n c small short =
    both_lack (codes "workers ") (decimal n ++ (codes " " ++ decimal c)) (literal_lacks 10 (codes "workers ") refl) (two_numbers_lack n c small short)
