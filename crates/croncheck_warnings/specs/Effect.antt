-- Settings that have an effect in another cron, and none in Debian's. Source: docs/CRONTAB.md, of `no-effect`.
use Rattle.std.specs.Prelude.{ℕ, ◌||◌, Bool, List, take, codes}
use Rattle.std.specs.Str.{bytes_eq}
use Rattle.crontab.specs.Setting.{setting_length, setting_name}

-- a variable is one of these, by which another cron starts jobs otherwise
abbrev pub is_without_effect : List ℕ → Bool
is_without_effect name =
    bytes_eq name (codes "RANDOM_DELAY")
    || (bytes_eq name (codes "START_HOURS_RANGE")
    || (bytes_eq name (codes "PERSISTENT") || (bytes_eq name (codes "DELAY") || bytes_eq name (codes "BATCH"))))

-- `no-effect`: the setting, from its first byte that is no blank on, is of one of these
abbrev pub has_no_effect : List ℕ → Bool
has_no_effect text = is_without_effect (setting_name (take setting_length text))
