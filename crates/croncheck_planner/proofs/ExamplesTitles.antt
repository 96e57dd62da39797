-- Worked rows of what jobs are called: which comments are titles, and which word of a command is one.
use Rattle.std.proofs.Common.{◌≡◌, ℕ, List, [], ◌∷◌, true, Option, None, Some, refl}
use Rattle.std.specs.Prelude.{codes}
use Rattle.crontab.specs.Line.{Line, never, blank, comment, job, pattern}
use Rattle.croncheck_planner.specs.Planner.{JobShown, NameShown, above_at, title_shown, user_text, with_shown}
use Rattle.croncheck_output.specs.Escaped.{shown_from}
use Rattle.croncheck_planner.specs.Programs.{step}
use Rattle.croncheck_planner.specs.Titles.{HeadingSeen, heading, no_heading, reads_as_line, tells_in_front, title_beside, title_of, title_text}

-- ---- comments

-- the title that a comment gives, which is the only one above a job
abbrev alone : List ℕ → List ℕ
alone line = (heading no_heading comment line).title

a_comment : alone (codes "  ## nightly \t") ≡ codes "nightly"
unfolding title_text reads_as_line tells_in_front
a_comment = refl

-- a comment without a text leaves what stands above it
abbrev nightly : HeadingSeen
nightly = record { title = codes "nightly"; is_comment = true }

an_empty_comment : heading nightly comment (codes "#") ≡ nightly
unfolding title_text reads_as_line tells_in_front
an_empty_comment = refl

-- so does one that allows something
what_is_allowed : heading nightly comment (codes "# croncheck: allow gap") ≡ nightly
unfolding title_text reads_as_line tells_in_front
what_is_allowed = refl

-- of two comments none is a title, nor of three
a_second_comment : heading nightly comment (codes "# but not on Sunday") ≡ record { title = []; is_comment = true }
unfolding title_text reads_as_line tells_in_front
a_second_comment = refl

a_third_comment : heading (record { title = []; is_comment = true }) comment (codes "# c") ≡ record { title = []; is_comment = true }
unfolding title_text reads_as_line tells_in_front
a_third_comment = refl

a_blank_line : heading nightly blank [] ≡ no_heading
a_blank_line = refl

nothing_above_a_file : above_at 0 nightly ≡ no_heading
nothing_above_a_file = refl

-- 60 signs, of which one has two bytes, and 61
sixty_signs : alone (codes "# ébcdefghi abcdefghi abcdefghi abcdefghi abcdefghi abcdefghij") ≡ codes "ébcdefghi abcdefghi abcdefghi abcdefghi abcdefghi abcdefghij"
unfolding title_text reads_as_line tells_in_front
sixty_signs = refl

one_sign_more : alone (codes "# ébcdefghi abcdefghi abcdefghi abcdefghi abcdefghi abcdefghijk") ≡ []
unfolding title_text reads_as_line tells_in_front
one_sign_more = refl

-- ---- lines that were taken out: their commands may hold passwords

a_job_taken_out : alone (codes "#0 3 * * * mysqldump -hunter2 app") ≡ []
unfolding title_text reads_as_line tells_in_front
a_job_taken_out = refl

one_of_each_minute : alone (codes "# */5 * * * * root poll --key hunter2") ≡ []
unfolding title_text reads_as_line tells_in_front
one_of_each_minute = refl

-- behind a word, or a sign
behind_a_word : alone (codes "#OFF 0 3 * * * backup hunter2") ≡ []
unfolding title_text reads_as_line tells_in_front
behind_a_word = refl

behind_a_sign : alone (codes "#; 0 3 * * * backup hunter2") ≡ []
unfolding title_text reads_as_line tells_in_front
behind_a_sign = refl

behind_words : alone (codes "# was until May: 5 4 * jan-mar MON,fri backup hunter2") ≡ []
unfolding title_text reads_as_line tells_in_front
behind_words = refl

-- with the minutes at the end of a word
beside_a_word : alone (codes "#OFF:0 3 * * * backup hunter2") ≡ []
unfolding title_text reads_as_line tells_in_front
beside_a_word = refl

-- with an hour that cron refuses
with_a_fault : alone (codes "# old 0 25 * * * backup hunter2") ≡ []
unfolding title_text reads_as_line tells_in_front
with_a_fault = refl

-- four words of the five stay
four_fields : alone (codes "# 3am: 4 3 2 jobs") ≡ codes "3am: 4 3 2 jobs"
unfolding title_text reads_as_line tells_in_front
four_fields = refl

numbers : alone (codes "# copies 3 of 5 disks, 2 by 2") ≡ codes "copies 3 of 5 disks, 2 by 2"
unfolding title_text reads_as_line tells_in_front
numbers = refl

-- hours don't begin with a letter
no_hours : alone (codes "# level 1 to * * *") ≡ codes "level 1 to * * *"
unfolding title_text reads_as_line tells_in_front
no_hours = refl

by_a_nickname : alone (codes "## @daily sync --key hunter2") ≡ []
unfolding title_text reads_as_line tells_in_front
by_a_nickname = refl

by_a_nickname_behind : alone (codes "# OFF @Daily sync --key hunter2") ≡ []
unfolding title_text reads_as_line tells_in_front
by_a_nickname_behind = refl

by_a_nickname_beside : alone (codes "# OFF:@reboot sync hunter2") ≡ []
unfolding title_text reads_as_line tells_in_front
by_a_nickname_beside = refl

by_another_program : alone (codes "# off @every 5m sync hunter2") ≡ []
unfolding title_text reads_as_line tells_in_front
by_another_program = refl

-- no nickname
an_address : alone (codes "# mail ops@example.org daily") ≡ codes "mail ops@example.org daily"
unfolding title_text reads_as_line tells_in_front
an_address = refl

a_person : alone (codes "# ask @anna first") ≡ codes "ask @anna first"
unfolding title_text reads_as_line tells_in_front
a_person = refl

-- a setting
a_setting_taken_out : alone (codes "# PGPASSWORD=hunter2") ≡ []
unfolding title_text reads_as_line tells_in_front
a_setting_taken_out = refl

a_setting_with_blanks : alone (codes "#MAILTO = ops") ≡ []
unfolding title_text reads_as_line tells_in_front
a_setting_with_blanks = refl

an_export : alone (codes "# export PW=hunter2") ≡ []
unfolding title_text reads_as_line tells_in_front
an_export = refl

an_option_with_a_value : alone (codes "# sync with --key=hunter2") ≡ []
unfolding title_text reads_as_line tells_in_front
an_option_with_a_value = refl

an_equals_sign_apart : alone (codes "# set PW = hunter2") ≡ []
unfolding title_text reads_as_line tells_in_front
an_equals_sign_apart = refl

-- several of them, or nothing behind it
a_line_of_signs : alone (codes "# the nightly ===") ≡ codes "the nightly ==="
unfolding title_text reads_as_line tells_in_front
a_line_of_signs = refl

nothing_behind_it : alone (codes "# the nightly =") ≡ codes "the nightly ="
unfolding title_text reads_as_line tells_in_front
nothing_behind_it = refl

-- a password as mysql takes it
a_password : alone (codes "# dump by mysqldump -phunter2 app") ≡ []
unfolding title_text reads_as_line tells_in_front
a_password = refl

a_password_in_front : alone (codes "# -phunter2") ≡ []
unfolding title_text reads_as_line tells_in_front
a_password_in_front = refl

-- other dashes
an_option_alone : alone (codes "# rsync -p by pre-push") ≡ codes "rsync -p by pre-push"
unfolding title_text reads_as_line tells_in_front
an_option_alone = refl

-- what names the fields is no title
the_fields_named : alone (codes "# m h  dom mon dow   command") ≡ []
unfolding title_text reads_as_line tells_in_front
the_fields_named = refl

-- a word with a letter, and a line of dashes, are no minutes
a_time_of_the_day : alone (codes "# 3am: nightly") ≡ codes "3am: nightly"
unfolding title_text reads_as_line tells_in_front
a_time_of_the_day = refl

dashes : alone (codes "# -- nightly --") ≡ codes "-- nightly --"
unfolding title_text reads_as_line tells_in_front
dashes = refl

-- ---- commands

abbrev of : List ℕ → Line
of command = job (record { times = never; schedule = codes "0 5 * * *"; user = None; command = command })

below_a_comment : title_of (codes "crontab") (codes "nightly") (of (codes "/usr/bin/backup --all")) ≡ codes "nightly"
below_a_comment = refl

by_its_path : title_of (codes "crontab") [] (of (codes "  /usr/bin/backup --all")) ≡ codes "backup"
by_its_path = refl

by_its_first_word : title_of (codes "crontab") [] (of (codes "backup /srv")) ≡ codes "backup"
by_its_first_word = refl

-- a shell ends a word at a sign, and cron the command
by_a_word_with_a_sign : title_of (codes "crontab") [] (of (codes "backup>/dev/null")) ≡ codes "backup"
by_a_word_with_a_sign = refl

by_a_word_with_input : title_of (codes "crontab") [] (of (codes "mail%hunter2")) ≡ codes "mail"
by_a_word_with_input = refl

-- what goes to a folder, or asks whether a program is to run, leads to it
in_a_folder : step (codes "cd /srv/www && /usr/bin/make all") ≡ Some (codes "/usr/bin/make all")
in_a_folder = refl

-- `if`, and a test (mdadm)
by_if : step (codes "if [ -x a ] && [ b ]; then c") ≡ Some (codes "[ -x a ] && [ b ]; then c")
by_if = refl

by_a_test : step (codes "[ -x a ] && [ b ]; then c") ≡ Some (codes "[ b ]; then c")
by_a_test = refl

by_then : step (codes "then /usr/bin/c -q; fi") ≡ Some (codes "/usr/bin/c -q; fi")
by_then = refl

-- a backslash is no quote (certbot)
behind_a_backslash : step (codes "test -x a -a \\! -d b && c -q") ≡ Some (codes "c -q")
behind_a_backslash = refl

-- what is asked by name (sysstat)
by_command : step (codes "command -v sa1 > /dev/null && sa1 1") ≡ Some (codes "sa1 1")
by_command = refl

by_which : step (codes "which c || exit 0; c --all") ≡ Some (codes "exit 0; c --all")
by_which = refl

after_an_end : step (codes "exit 0; c --all") ≡ Some (codes "c --all")
after_an_end = refl

-- a variable that is set in front (e2fsprogs)
behind_a_variable : step (codes "SERVICE_MODE=1 /sbin/c -A") ≡ Some (codes "/sbin/c -A")
behind_a_variable = refl

in_a_group : step (codes "{ cd / && c; }") ≡ Some (codes "cd / && c; }")
in_a_group = refl

a_date_in_quotes : step (codes "[ \"$(date +\\%u)\" = 5 ] && c") ≡ Some (codes "c")
a_date_in_quotes = refl

-- the program itself
no_step : step (codes "/usr/bin/c -q && d") ≡ None
no_step = refl

by_two_steps : title_of (codes "crontab") [] (of (codes "if [ a ]; then b")) ≡ codes "b"
by_two_steps = refl

-- the sign in quotes ends nothing
a_sign_in_quotes : title_of (codes "crontab") [] (of (codes "[ 'a && b' ] && c")) ≡ codes "c"
a_sign_in_quotes = refl

a_quote_taken_as_it_stands : title_of (codes "crontab") [] (of (codes "test a = \\\" && b")) ≡ codes "b"
a_quote_taken_as_it_stands = refl

-- nothing ends it
by_one_sign : title_of (codes "crontab") [] (of (codes "cd /srv & backup")) ≡ codes "cd"
by_one_sign = refl

an_open_quote : title_of (codes "crontab") [] (of (codes "[ 'a && b ] && c")) ≡ codes "["
an_open_quote = refl

-- the folder of run-parts, and the file of a program that runs files
by_its_folder : title_of (codes "crontab") [] (of (codes "run-parts --report /etc/cron.daily; }")) ≡ codes "cron.daily"
by_its_folder = refl

by_its_file : title_of (codes "crontab") [] (of (codes "/usr/bin/php -q /var/www/site/cron.php >/dev/null")) ≡ codes "cron.php"
by_its_file = refl

by_a_version : title_of (codes "crontab") [] (of (codes "python3.11 -u /srv/poll.py --all")) ≡ codes "poll.py"
by_a_version = refl

-- but not what may be a program's text
a_text_in_quotes : title_of (codes "crontab") [] (of (codes "perl -e 'sleep int(rand(43200))'")) ≡ codes "perl"
a_text_in_quotes = refl

a_text_without_a_path : title_of (codes "crontab") [] (of (codes "sh -c backup")) ≡ codes "sh"
a_text_without_a_path = refl

without_a_file : title_of (codes "crontab") [] (of (codes "php")) ≡ codes "php"
without_a_file = refl

a_folder : title_of (codes "crontab") [] (of (codes "/srv/")) ≡ codes "/srv/"
a_folder = refl

by_its_times : title_of (codes "crontab") [] (of (codes "  ")) ≡ codes "0 5 * * *"
by_its_times = refl

-- what a variable is set to is never shown
behind_a_password : title_of (codes "crontab") [] (of (codes "PGPASSWORD=hunter2 pg_dump")) ≡ codes "pg_dump"
behind_a_password = refl

a_password_in_quotes : title_of (codes "crontab") [] (of (codes "PGPASSWORD=\"hunter 2\" pg_dump")) ≡ codes "0 5 * * *"
a_password_in_quotes = refl

a_password_alone : title_of (codes "crontab") [] (of (codes "PGPASSWORD=hunter2")) ≡ codes "0 5 * * *"
a_password_alone = refl

a_password_in_a_path : title_of (codes "crontab") [] (of (codes "/x=hunter2")) ≡ codes "0 5 * * *"
a_password_in_a_path = refl

a_pattern : title_of (codes "crontab") [] (pattern (codes "0 9 * * MON")) ≡ codes "0 9 * * MON"
a_pattern = refl

-- ---- files of a folder cron.d

by_its_file_name : title_of (codes "/etc/cron.d/certbot") [] (of (codes "perl x")) ≡ codes "certbot"
by_its_file_name = refl

beside_other_jobs : title_beside (codes "cron.d/munin-node") [] (of (codes "/usr/bin/munin-cron")) ≡ Some (codes "munin-node: munin-cron")
beside_other_jobs = refl

a_comment_there : title_of (codes "/etc/cron.d/certbot") (codes "Renewal") (of (codes "perl x")) ≡ codes "Renewal"
a_comment_there = refl

a_comment_beside_others : title_beside (codes "/etc/cron.d/certbot") (codes "Renewal") (of (codes "perl x")) ≡ None
a_comment_beside_others = refl

-- cron passes over this name
a_name_with_a_dot : title_of (codes "/etc/cron.d/web.sh") [] (of (codes "x")) ≡ codes "x"
a_name_with_a_dot = refl

another_folder : title_of (codes "/etc/xcron.d/certbot") [] (of (codes "x")) ≡ codes "x"
another_folder = refl

a_file_of_that_name : title_of (codes "cron.d") [] (of (codes "x")) ≡ codes "x"
a_file_of_that_name = refl

-- the second job of a file gives both the titles that they have beside others; one of another file leaves them
abbrev shown_as : ℕ → List ℕ → Option NameShown → JobShown
shown_as number title beside =
    record { number = number; line = 1; file = []; title = title; user = []; times = []; words = []; command = []; label = []; beside = beside }

abbrev beside_as : List ℕ → Option NameShown
beside_as title = Some (record { title = title; label = [] })

a_second_job : with_shown (shown_as 1 (codes "a") (beside_as (codes "a: x")) ∷ []) (shown_as 1 (codes "a") (beside_as (codes "a: y")))
    ≡ shown_as 1 (codes "a: x") None ∷ shown_as 1 (codes "a: y") None ∷ []
a_second_job = refl

a_third_job : with_shown (shown_as 1 (codes "a: x") None ∷ shown_as 1 (codes "a: y") None ∷ []) (shown_as 1 (codes "a") (beside_as (codes "a: z")))
    ≡ shown_as 1 (codes "a: x") None ∷ shown_as 1 (codes "a: y") None ∷ shown_as 1 (codes "a: z") None ∷ []
a_third_job = refl

one_of_another_file : with_shown (shown_as 1 (codes "a") (beside_as (codes "a: x")) ∷ []) (shown_as 2 (codes "b") (beside_as (codes "b: y")))
    ≡ shown_as 1 (codes "a") (beside_as (codes "a: x")) ∷ shown_as 2 (codes "b") (beside_as (codes "b: y")) ∷ []
one_of_another_file = refl

-- ---- what is shown

in_quotes : title_shown (codes "::error::x") ≡ codes "'::error::x'"
unfolding shown_from lib.Utf8.encode
in_quotes = refl

without_quotes : title_shown (codes "x::y") ≡ codes "x::y"
unfolding shown_from lib.Utf8.encode
without_quotes = refl

abbrev as_user : List ℕ → Line
as_user user = job (record { times = never; schedule = codes "0 5 * * *"; user = Some user; command = codes "pg_dump" })

a_user : user_text (as_user (codes "www-data")) ≡ codes "www-data"
a_user = refl

no_user : user_text (as_user (codes "PGPASSWORD=hunter2")) ≡ []
no_user = refl
