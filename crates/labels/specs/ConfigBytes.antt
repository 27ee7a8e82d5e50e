-- The payload of a label config, as it is written.
pub use Rattle.base.specs.formats.Labels.{config_bytes}
