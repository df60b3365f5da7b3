pub mod ShadowLaws
pub mod GapLaws
pub mod Orders
pub mod CrowdLaws
pub mod ItemLaws
pub mod ShadingLaws
pub mod DealtLaws
pub mod EndLaws
